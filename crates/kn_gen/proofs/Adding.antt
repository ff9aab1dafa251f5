-- What one more literal, block or link adds, and how many constraints there are.
use Rattle.std.proofs.Common.{◌≡◌, ℕ, zero, suc, ◌+◌, ◌-◌, ◌*◌, ◌≤◌, ◌<◌, ◌^◌, min, true, List, [], ◌∷◌, ◌++◌, length, length-append, map, refl, sym, ap, ◌∙◌, subst, append_assoc, arith}
use Rattle.std.proofs.Math.Numerals.{add-one}
use Rattle.kn_logic.specs.Literals.{Literal, negated}
use Rattle.kn_logic.specs.Constraints.{Bounded, klause}
use Rattle.kn_logic.specs.Formulas.{Problem}
use Rattle.kn_counter.specs.declared.error.CountError.{CountError}
use Rattle.kn_counter.specs.declared.error.CountError.TheVariants.{TooLarge, Memory}
use Rattle.kn_counter.specs.Sizes.{IfTooLarge}
use Rattle.kn_gen.specs.Blocks.{literals_from, block, at_most, at_least, block_klauses, blocks, link, links, block_formula}

pub literals-more : (lits whole : List Literal) (first k n m : ℕ) (l : Literal) → n ≡ suc m → l ≡ record { variable = first + k; positive = true } → lits ++ literals_from (first + k) n ≡ whole → (lits ++ l ∷ []) ++ literals_from (first + (k + 1)) m ≡ whole
literals-more lits whole first k n m l e is h =
    let next : first + (k + 1) ≡ first + k + 1 = omega arith in
    append_assoc lits (l ∷ []) (literals_from (first + (k + 1)) m)
    ∙ ap (λ (x : Literal). lits ++ x ∷ literals_from (first + (k + 1)) m) is
    ∙ ap (λ (v : ℕ). lits ++ (record { variable = first + k; positive = true }) ∷ literals_from v m) next
    ∙ subst (λ (z : ℕ). lits ++ literals_from (first + k) z ≡ whole) e h

pub blocks-next : (n t : ℕ) → blocks n (t + 1) ≡ blocks n t ++ block_klauses n (t + 1)
blocks-next n t = rw (add-one t) refl

pub links-next : (t : ℕ) → links (t + 1) ≡ links t ++ link (t + 1) ∷ []
links-next t = rw (add-one t) refl

abbrev the_problem : ℕ → List Bounded → Problem
the_problem vars cs = record { vars = vars; constraints = cs }

-- two constraints, one after the other
pub pushed-twice : (vars : ℕ) (cs : List Bounded) (a b : Bounded) (f g : Problem) → f ≡ the_problem vars (cs ++ a ∷ []) → g ≡ record f { constraints = f.constraints ++ b ∷ [] } → g ≡ the_problem vars (cs ++ a ∷ b ∷ [])
pushed-twice vars cs a b f g first second =
    second ∙ ap (λ (x : Problem). the_problem x.vars (x.constraints ++ b ∷ [])) first ∙ ap (the_problem vars) (append_assoc cs (a ∷ []) (b ∷ []))

-- the two of a block
pub block-pushed : (n t : ℕ) (old f g : Problem) (a b : Bounded) (negations lits : List Literal) (most least : ℕ) → lits ≡ block t → negations ≡ map negated lits → most ≡ at_most n t → least ≡ at_least n t
    → a ≡ klause (8 - most) negations → b ≡ klause least lits → f ≡ record old { constraints = old.constraints ++ a ∷ [] } → g ≡ record f { constraints = f.constraints ++ b ∷ [] }
    → g ≡ record old { constraints = old.constraints ++ block_klauses n t }
block-pushed n t old f g a b negations lits most least is nots m l first second one two =
    pushed-twice old.vars old.constraints a b f g one two
    ∙ ap (λ (x : Bounded). the_problem old.vars (old.constraints ++ x ∷ b ∷ [])) (first ∙ ap (λ (k : ℕ). klause (8 - k) negations) m ∙ ap (klause (8 - at_most n t)) (nots ∙ ap (map negated) is))
    ∙ ap (λ (x : Bounded). the_problem old.vars (old.constraints ++ klause (8 - at_most n t) (map negated (block t)) ∷ x ∷ [])) (second ∙ ap (λ (k : ℕ). klause k lits) l ∙ ap (klause (at_least n t)) is)

-- what is added behind what was added
pub pushed-behind : (vars : ℕ) (cs xs ys zs : List Bounded) (f g : Problem) → f ≡ the_problem vars (cs ++ xs) → g ≡ record f { constraints = f.constraints ++ ys } → zs ≡ xs ++ ys → g ≡ the_problem vars (cs ++ zs)
pushed-behind vars cs xs ys zs f g first second is =
    second ∙ ap (λ (x : Problem). the_problem x.vars (x.constraints ++ ys)) first ∙ ap (the_problem vars) (append_assoc cs xs ys ∙ ap (λ (l : List Bounded). cs ++ l) (sym is))

-- the number of constraints
length-blocks : (n t : ℕ) → length (blocks n t) ≡ 2 * t
length-blocks n zero = refl
length-blocks n (suc t) = length-append (blocks n t) (block_klauses n (suc t)) ∙ omega (arith, length-blocks n t)

length-links : (t : ℕ) → length (links t) ≡ t
length-links zero = refl
length-links (suc t) = length-append (links t) (link (suc t) ∷ []) ∙ omega (arith, length-links t)

pub few-constraints : (n : ℕ) → n ≤ 200 → length (block_formula n).constraints ≤ 10000000
few-constraints n h = omega (arith, h, length-append (blocks n n) (links (n - 1)), length-blocks n n, length-links (n - 1))

pub not-large : (e : CountError) (vars : ℕ) → vars ≤ 10000000 → IfTooLarge e (λ n. (10000000 < vars) × (n ≡ min vars (2 ^ 64 - 1))) → IfTooLarge e (λ n. ⊥)
not-large (TooLarge n) vars few large = omega (arith, few, large.0)
not-large Memory vars few large = tt
