-- What is kept of a klause where a literal joins it.
use Rattle.std.proofs.Common.{is_eq, nat_cmp, ◌≡◌, ℕ, ◌==◌, Bool, true, false, ◌||◌, cond, not, List, [], ◌∷◌, ◌++◌, Option, refl, sym, ap, subst, ◌∙◌, append_assoc}
use Rattle.std.proofs.lemmas.List.Folds.{list_any-append}
use Rattle.std.specs.Prelude.{option_to_list, nat_eq}
use Rattle.std.specs.Cmp.{unsigned_tied}
use Rattle.kn_logic.proofs.Public.{known-append, different-push}
use Rattle.kn_logic.specs.Literals.{Literal, IsKnown, names}
use Rattle.kn_logic.specs.Constraints.{Bounded, named}
use Rattle.kn_format.specs.declared.place.Place.{Place}
use Rattle.kn_format.specs.declared.place.Place.TheVariants.{Klause}
use Rattle.kn_format.specs.Faults.{with_literal}
use Rattle.kn_format.specs.Reading.{Keeps}

pub names_append : (xs ys : List Literal) (v : ℕ) → names (xs ++ ys) v ≡ (names xs v || names ys v)
names_append xs ys v = list_any-append (λ l. l.variable == v) xs ys

pub or_left : (b c : Bool) → (b || c) ≡ false → b ≡ false
or_left false c e = refl
or_left true c e = e

pub or_right : (b c : Bool) → (b || c) ≡ false → c ≡ false
or_right false c e = e
or_right true c e = absurd cc

pub named_more : (c : Bounded) (l : Literal) → named (with_literal c l) ≡ named c ++ l ∷ []
named_more c l = sym (append_assoc (option_to_list c.guard) c.lits (l ∷ []))

seen_more : (t : Bool) (b : Bool) → cond t true b ≡ (b || (t || false))
seen_more true true = refl
seen_more true false = refl
seen_more false true = refl
seen_more false false = refl

abbrev begun_of : Option Literal → ℕ → List Literal → Bounded
begun_of guard bound lits = record { guard = guard; bound = bound; lits = lits }

keeps_literal : (vars : ℕ) (c : Bounded) (l : Literal) (old new : ℕ → Bool) → Keeps vars Klause c old → IsKnown vars l → names (named c) l.variable ≡ false
    → ((v : ℕ) → new v ≡ cond (nat_eq l.variable v) true (old v)) → Keeps vars Klause (with_literal c l) new
keeps_literal vars c l old new kept known apart joined = record {
  within = record { guard = kept.within.guard; lits = known-append vars c.lits (l ∷ []) kept.within.lits (known, tt) };
  clause = λ e. absurd cc;
  different = λ e. rw named_more (different-push (named c) l (kept.different refl) apart);
  seen = λ e v.
      joined v ∙ ap (cond (nat_eq l.variable v) true) (kept.seen refl v) ∙ seen_more (nat_eq l.variable v) (names (named c) v)
      ∙ sym (names_append (named c) (l ∷ []) v) ∙ ap (λ xs. names xs v) (sym (named_more c l));
}

-- one is new where the set says so
pub not_seen : (seen is_new : Bool) → is_new ≡ not seen → is_new ≡ true → seen ≡ false
not_seen true is_new e new = absurd cc
not_seen false is_new e new = refl

-- the fields of the reader, where a literal of a variable that was not seen has joined the klause
pub keeps_added : (vars : ℕ) (place : Place) (guard : Option Literal) (bound : ℕ) (lits more : List Literal) (l : Literal) (n : ℕ) (old new : ℕ → Bool) → place ≡ Klause
    → Keeps vars place (begun_of guard bound lits) old → IsKnown vars l → n ≡ l.variable → old n ≡ false → more ≡ lits ++ l ∷ []
    → ((v : ℕ) → new v ≡ cond (nat_eq n v) true (old v)) → Keeps vars place (begun_of guard bound more) new
keeps_added vars place guard bound lits more l n old new at kept known var apart joined seen =
    let here : Keeps vars Klause (begun_of guard bound lits) old = subst (λ (p : Place). Keeps vars p (begun_of guard bound lits) old) at kept in
    let there : Keeps vars Klause (begun_of guard bound (lits ++ l ∷ [])) new =
    keeps_literal vars (begun_of guard bound lits) l old new here known
    (sym (here.seen refl l.variable) ∙ ap old (sym var) ∙ apart)
    (λ v. seen v ∙ ap (λ m. cond (nat_eq m v) true (old v)) var) in
    let list : Keeps vars Klause (begun_of guard bound more) new =
    subst (λ (ls : List Literal). Keeps vars Klause (begun_of guard bound ls) new) (sym joined) there in
    subst (λ (p : Place). Keeps vars p (begun_of guard bound more) new) (sym at) list

-- a set that is kept in order, to which a variable was added
pub joined : (n : ℕ) (old new : ℕ → Bool) → ((v : ℕ) → new v ≡ cond (is_eq (nat_cmp n v)) true (old v)) → (v : ℕ) → new v ≡ cond (nat_eq n v) true (old v)
joined n old new added v = added v ∙ ap (λ b. cond b true (old v)) (unsigned_tied n v)
