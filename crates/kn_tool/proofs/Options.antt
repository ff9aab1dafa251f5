-- The words behind the files of `solve`, as many as there are.
use Rattle.std.proofs.Common.{◌≡◌, ◌≤◌, ◌<◌, ℕ, List, [], ◌∷◌, length, Option, Some, None, IfNone, slice_index_or, sym, ap, ◌∙◌, subst, arith}
use Rattle.std.specs.declared.vec.Vec.{Vec}
use Rattle.std.specs.declared.alloc.Global.{Global}
use Rattle.kn_tool.specs.Words.{SpellsOption, SpellsBoth, SpellsOptions, texts}
use Rattle.kn_tool.specs.declared.command.Limits.{Limits}

pub none_of_one : (words : List (Vec ℕ Global)) → 1 ≤ length words → length words < 2 → (conflicts forget : ℕ) → SpellsOptions (texts words) conflicts forget → ⊥
none_of_one [] low high conflicts forget s = absurd (omega arith)
none_of_one (a ∷ []) low high conflicts forget s = s
none_of_one (a ∷ b ∷ more) low high conflicts forget s = absurd (omega arith)

pub none_of_three : (words : List (Vec ℕ Global)) → 3 ≤ length words → length words < 4 → (conflicts forget : ℕ) → SpellsOptions (texts words) conflicts forget → ⊥
none_of_three [] low high conflicts forget s = absurd (omega arith)
none_of_three (a ∷ []) low high conflicts forget s = absurd (omega arith)
none_of_three (a ∷ b ∷ []) low high conflicts forget s = absurd (omega arith)
none_of_three (a ∷ b ∷ c ∷ []) low high conflicts forget s = s
none_of_three (a ∷ b ∷ c ∷ d ∷ more) low high conflicts forget s = absurd (omega arith)

-- as long as a list that is named is known to have these items
abbrev Item : List (Vec ℕ Global) → ℕ → List ℕ → Type 0
Item words k text = (v : Vec ℕ Global) × (v ≡ slice_index_or words k v) × (text ≡ v.items)

pub none_of_two : (words : List (Vec ℕ Global)) (a b : List ℕ) (r : Option Limits) → 2 ≤ length words → length words < 3 → Item words 0 a → Item words 1 b →
    IfNone r ((conflicts : ℕ) (forget : ℕ) → SpellsOption a b conflicts forget → ⊥) → IfNone r ((conflicts : ℕ) (forget : ℕ) → SpellsOptions (texts words) conflicts forget → ⊥)
none_of_two [] a b r low high ia ib h = absurd (omega arith)
none_of_two (x ∷ []) a b r low high ia ib h = absurd (omega arith)
none_of_two (x ∷ y ∷ []) a b (Some l) low high ia ib h = tt
none_of_two (x ∷ y ∷ []) a b None low high ia ib h = λ conflicts forget s.
    let first : x.items ≡ a = sym (ia.2 ∙ ap (λ (v : Vec ℕ Global). v.items) ia.1) in
    let second : y.items ≡ b = sym (ib.2 ∙ ap (λ (v : Vec ℕ Global). v.items) ib.1) in
    h conflicts forget (subst (λ u. SpellsOption u b conflicts forget) first (subst (λ u. SpellsOption x.items u conflicts forget) second s))
none_of_two (x ∷ y ∷ z ∷ more) a b r low high ia ib h = absurd (omega arith)

pub none_of_four : (words : List (Vec ℕ Global)) (a b d e : List ℕ) (r : Option Limits) → 4 ≤ length words → length words < 5 → Item words 0 a → Item words 1 b → Item words 2 d → Item words 3 e →
    IfNone r ((conflicts : ℕ) (forget : ℕ) → SpellsBoth a b d e conflicts forget → ⊥) → IfNone r ((conflicts : ℕ) (forget : ℕ) → SpellsOptions (texts words) conflicts forget → ⊥)
none_of_four [] a b d e r low high ia ib id ie h = absurd (omega arith)
none_of_four (x ∷ []) a b d e r low high ia ib id ie h = absurd (omega arith)
none_of_four (x ∷ y ∷ []) a b d e r low high ia ib id ie h = absurd (omega arith)
none_of_four (x ∷ y ∷ z ∷ []) a b d e r low high ia ib id ie h = absurd (omega arith)
none_of_four (x ∷ y ∷ z ∷ w ∷ []) a b d e (Some l) low high ia ib id ie h = tt
none_of_four (x ∷ y ∷ z ∷ w ∷ []) a b d e None low high ia ib id ie h = λ conflicts forget s.
    let first : x.items ≡ a = sym (ia.2 ∙ ap (λ (v : Vec ℕ Global). v.items) ia.1) in
    let second : y.items ≡ b = sym (ib.2 ∙ ap (λ (v : Vec ℕ Global). v.items) ib.1) in
    let third : z.items ≡ d = sym (id.2 ∙ ap (λ (v : Vec ℕ Global). v.items) id.1) in
    let fourth : w.items ≡ e = sym (ie.2 ∙ ap (λ (v : Vec ℕ Global). v.items) ie.1) in
    h conflicts forget
    (subst (λ u. SpellsBoth u b d e conflicts forget) first
    (subst (λ u. SpellsBoth x.items u d e conflicts forget) second
    (subst (λ u. SpellsBoth x.items y.items u e conflicts forget) third
    (subst (λ u. SpellsBoth x.items y.items z.items u conflicts forget) fourth s))))
none_of_four (x ∷ y ∷ z ∷ w ∷ v ∷ more) a b d e r low high ia ib id ie h = absurd (omega arith)
