-- Words that are read can go on: the constraint that is begun is ended, and empty clauses follow it.
use Rattle.std.proofs.Common.{◌≡◌, ℕ, ◌≤◌, ◌<◌, ◌+◌, ◌-◌, ◌==◌, nat_lt, zero, suc, Bool, true, false, if◌then◌else◌, List, [], ◌∷◌, ◌++◌, length, Option, Some, None, Ok, Err, refl, sym, ap, subst, ◌∙◌, length-append, arith, inl, inr, ◌⊎◌}
use Rattle.std.proofs.lemmas.Bool.Decides.{nat_tests}
use Rattle.std.specs.Prelude.{codes}
use Rattle.std.specs.Str.{bytes_eq}
use Rattle.kn_logic.specs.Literals.{Literal, names}
use Rattle.kn_logic.specs.Constraints.{Bounded, clause, guarded_klause, named}
use Rattle.kn_text.specs.Numbers.{number_of, literal_of, is_end}
use Rattle.kn_format.specs.declared.format.Format.{Format}
use Rattle.kn_format.specs.declared.format.Format.TheVariants.{Cnf, Knf}
use Rattle.kn_format.specs.declared.place.Place.{Place}
use Rattle.kn_format.specs.declared.place.Place.TheVariants.{Between, Guard, Bound, Clause, Klause}
use Rattle.kn_format.specs.Grammar.{highest_bound}
use Rattle.kn_format.specs.Faults.{Reading, nothing, with_literal, with_bound, is_full, begin, empty_clause, first_word, guard, bound, within_clause, within_klause, after, after_words, ◌>>=◌, bad_token, variable_above_header, bound_too_large, repeated_variable, extra_constraint}
use Rattle.kn_format.proofs.Steps.{reading, step, between_end, guard_literal, bound_number, clause_end, klause_end}
use Rattle.kn_format.proofs.Back.{unless, when, okay, is_ok, first_step}

-- As many constraints as the problem line says are not exceeded, the one that is begun counted.
abbrev pub HasRoom : Place → List Bounded → ℕ → Type 0
HasRoom Between done count = length done ≤ count
HasRoom Guard done count = length done < count
HasRoom Bound done count = length done < count
HasRoom Clause done count = length done < count
HasRoom Klause done count = length done < count

-- a reading behind this problem line
pub record Reached (format : Format) (count vars : ℕ) (s : Reading) : Type 0 where
  pub done : List Bounded
  pub place : Place
  pub begun : Bounded
  pub same : s ≡ reading format count vars done place begun
  pub room : HasRoom place done count
  pub kind : place ≡ Guard → format ≡ Knf

reached : (format : Format) (count vars : ℕ) (done : List Bounded) (place : Place) (begun : Bounded) (s : Reading) → okay (reading format count vars done place begun) ≡ okay s → HasRoom place done count
    → (place ≡ Guard → format ≡ Knf) → Reached format count vars s
reached format count vars done place begun s e room kind = record { done = done; place = place; begun = begun; same = sym (is_ok _ s e); room = room; kind = kind }

more_room : (done : List Bounded) (c : Bounded) (count : ℕ) → length done < count → length (done ++ c ∷ []) ≤ count
more_room done c count room = rw length-append (omega arith)

not_full : (done : List Bounded) (count : ℕ) → length done ≤ count → (length done == count) ≡ false → length done < count
not_full done count room e = grind (arith, nat_tests)

in_clause : (format : Format) (count vars : ℕ) (done : List Bounded) (begun : Bounded) (word : List ℕ) (s : Reading) (o : Option Literal) → length done < count
    → within_clause (reading format count vars done Clause begun) word o ≡ Ok s → Reached format count vars s
in_clause format count vars done begun word s (Some l) room e =
    let u = unless (nat_lt vars l.variable) variable_above_header (Ok (reading format count vars done Clause (with_literal begun l))) s e in
    reached format count vars done Clause (with_literal begun l) s u.1 room (λ k. absurd cc)
in_clause format count vars done begun word s None room e =
    let u = when (is_end word) bad_token (Ok (reading format count vars (done ++ begun ∷ []) Between nothing)) s e in
    reached format count vars (done ++ begun ∷ []) Between nothing s u.1 (more_room done begun count room) (λ k. absurd cc)

in_klause : (format : Format) (count vars : ℕ) (done : List Bounded) (begun : Bounded) (word : List ℕ) (s : Reading) (o : Option Literal) → length done < count
    → within_klause (reading format count vars done Klause begun) word o ≡ Ok s → Reached format count vars s
in_klause format count vars done begun word s (Some l) room e =
    let u = unless (nat_lt vars l.variable) variable_above_header (if names (named begun) l.variable then Err repeated_variable else Ok (reading format count vars done Klause (with_literal begun l))) s e in
    let v = unless (names (named begun) l.variable) repeated_variable (Ok (reading format count vars done Klause (with_literal begun l))) s u.1 in
    reached format count vars done Klause (with_literal begun l) s v.1 room (λ k. absurd cc)
in_klause format count vars done begun word s None room e =
    let u = when (is_end word) bad_token (Ok (reading format count vars (done ++ begun ∷ []) Between nothing)) s e in
    reached format count vars (done ++ begun ∷ []) Between nothing s u.1 (more_room done begun count room) (λ k. absurd cc)

at_bound : (format : Format) (count vars : ℕ) (done : List Bounded) (begun : Bounded) (s : Reading) (o : Option ℕ) → length done < count
    → bound (reading format count vars done Bound begun) o ≡ Ok s → Reached format count vars s
at_bound format count vars done begun s (Some n) room e =
    let u = unless (nat_lt highest_bound n) bound_too_large (Ok (reading format count vars done Klause (with_bound begun n))) s e in
    reached format count vars done Klause (with_bound begun n) s u.1 room (λ k. absurd cc)
at_bound format count vars done begun s None room e = absurd cc

at_guard : (format : Format) (count vars : ℕ) (done : List Bounded) (begun : Bounded) (s : Reading) (o : Option Literal) → length done < count
    → guard (reading format count vars done Guard begun) o ≡ Ok s → Reached format count vars s
at_guard format count vars done begun s (Some l) room e =
    let u = unless (nat_lt vars l.variable) variable_above_header (Ok (reading format count vars done Bound (guarded_klause l 0 []))) s e in
    reached format count vars done Bound (guarded_klause l 0 []) s u.1 room (λ k. absurd cc)
at_guard format count vars done begun s None room e = absurd cc

-- where a constraint begins
begins : (format : Format) (count vars : ℕ) (done : List Bounded) (begun : Bounded) (place : Place) (next : Bounded) (s : Reading) → length done ≤ count
    → (length done < count → HasRoom place done count) → (place ≡ Guard → format ≡ Knf) → begin (reading format count vars done Between begun) place next ≡ Ok s → Reached format count vars s
begins format count vars done begun place next s room more kind e =
    let u = unless (length done == count) extra_constraint (Ok (reading format count vars done place next)) s e in
    reached format count vars done place next s u.1 (more (not_full done count room u.0)) kind

at_first : (format : Format) (count vars : ℕ) (done : List Bounded) (begun : Bounded) (word : List ℕ) (s : Reading) (o : Option Literal) → length done ≤ count
    → first_word (reading format count vars done Between begun) word o ≡ Ok s → Reached format count vars s
at_first format count vars done begun word s (Some l) room e =
    let u = unless (nat_lt vars l.variable) variable_above_header (begin (reading format count vars done Between begun) Clause (clause (l ∷ []))) s e in
    begins format count vars done begun Clause (clause (l ∷ [])) s room (λ m. m) (λ k. absurd cc) u.1
at_first format count vars done begun word s None room e =
    let u = when (is_end word) bad_token (empty_clause (reading format count vars done Between begun)) s e in
    let v = unless (length done == count) extra_constraint (Ok (reading format count vars (done ++ clause [] ∷ []) Between nothing)) s u.1 in
    reached format count vars (done ++ clause [] ∷ []) Between nothing s v.1 (more_room done (clause []) count (not_full done count room v.0)) (λ k. absurd cc)

at_q : (count vars : ℕ) (done : List Bounded) (begun : Bounded) (word : List ℕ) (s : Reading) (t : Bool) → length done ≤ count
    → (if t then begin (reading Knf count vars done Between begun) Guard nothing else first_word (reading Knf count vars done Between begun) word (literal_of word)) ≡ Ok s
    → Reached Knf count vars s
at_q count vars done begun word s true room e = begins Knf count vars done begun Guard nothing s room (λ m. m) (λ k. refl) e
at_q count vars done begun word s false room e = at_first Knf count vars done begun word s (literal_of word) room e

at_k : (count vars : ℕ) (done : List Bounded) (begun : Bounded) (word : List ℕ) (s : Reading) (t : Bool) → length done ≤ count
    → (if t then begin (reading Knf count vars done Between begun) Bound nothing
    else (if bytes_eq word (codes "q") then begin (reading Knf count vars done Between begun) Guard nothing else first_word (reading Knf count vars done Between begun) word (literal_of word))) ≡ Ok s
    → Reached Knf count vars s
at_k count vars done begun word s true room e = begins Knf count vars done begun Bound nothing s room (λ m. m) (λ k. absurd cc) e
at_k count vars done begun word s false room e = at_q count vars done begun word s (bytes_eq word (codes "q")) room e

at_place : (place : Place) (format : Format) (count vars : ℕ) (done : List Bounded) (begun : Bounded) (word : List ℕ) (s : Reading) → HasRoom place done count
    → after (reading format count vars done place begun) word ≡ Ok s → Reached format count vars s
at_place Between Cnf count vars done begun word s room e = at_first Cnf count vars done begun word s (literal_of word) room e
at_place Between Knf count vars done begun word s room e = at_k count vars done begun word s (bytes_eq word (codes "k")) room e
at_place Guard format count vars done begun word s room e = at_guard format count vars done begun s (literal_of word) room e
at_place Bound format count vars done begun word s room e = at_bound format count vars done begun s (number_of word) room e
at_place Clause format count vars done begun word s room e = in_clause format count vars done begun word s (literal_of word) room e
at_place Klause format count vars done begun word s room e = in_klause format count vars done begun word s (literal_of word) room e

-- what the words are read to
pub words_reach : (format : Format) (count vars : ℕ) (words : List (List ℕ)) (r s : Reading) → Reached format count vars r → after_words r words ≡ Ok s → Reached format count vars s
words_reach format count vars [] r s at e = subst (Reached format count vars) (is_ok r s e) at
words_reach format count vars (word ∷ words) r s at e =
    let f = first_step (after r word) (λ n. after_words n words) s e in
    words_reach format count vars words f.0 s
    (at_place at.place format count vars at.done at.begun word f.0 at.room (ap (λ n. after n word) (sym at.same) ∙ f.1)) f.2

-- words that end the constraints
pub record Completes (r : Reading) : Type 0 where
  pub behind : List (List ℕ)
  pub last : Reading
  pub read : after_words r behind ≡ Ok last
  pub place : last.place ≡ Between
  pub full : is_full last ≡ true

one_more : (r next : Reading) (word : List ℕ) → after r word ≡ Ok next → Completes next → Completes r
one_more r next word e c = record { behind = word ∷ c.behind; last = c.last; read = step r next word c.behind e ∙ c.read; place = c.place; full = c.full }

is_whole : (done : List Bounded) (count : ℕ) → length done + 0 ≡ count → (length done == count) ≡ true
is_whole done count e = grind (arith, nat_tests)

has_more : (done : List Bounded) (n count : ℕ) → length done + suc n ≡ count → (length done == count) ≡ false
has_more done n count e = grind (arith, nat_tests)

one_longer : (done : List Bounded) (c : Bounded) (n count : ℕ) → length done + suc n ≡ count → length (done ++ c ∷ []) + n ≡ count
one_longer done c n count e = rw length-append (omega arith)

empty_clauses : (n : ℕ) (format : Format) (count vars : ℕ) (done : List Bounded) (begun : Bounded) → length done + n ≡ count → Completes (reading format count vars done Between begun)
empty_clauses zero format count vars done begun e = record { behind = []; last = reading format count vars done Between begun; read = refl; place = refl; full = is_whole done count e }
empty_clauses (suc n) format count vars done begun e =
    one_more (reading format count vars done Between begun) (reading format count vars (done ++ clause [] ∷ []) Between nothing) (codes "0")
    (between_end format count vars done begun (codes "0") refl (has_more done n count e))
    (empty_clauses n format count vars (done ++ clause [] ∷ []) nothing (one_longer done (clause []) n count e))

behind_all : (format : Format) (count vars : ℕ) (done : List Bounded) (begun : Bounded) → length done ≤ count → Completes (reading format count vars done Between begun)
behind_all format count vars done begun room = empty_clauses (count - length done) format count vars done begun (omega arith)

end_of_clause : (format : Format) (count vars : ℕ) (done : List Bounded) (begun : Bounded) → length done < count → Completes (reading format count vars done Clause begun)
end_of_clause format count vars done begun room =
    one_more (reading format count vars done Clause begun) (reading format count vars (done ++ begun ∷ []) Between nothing) (codes "0")
    (clause_end format count vars done begun (codes "0") refl)
    (behind_all format count vars (done ++ begun ∷ []) nothing (more_room done begun count room))

end_of_klause : (format : Format) (count vars : ℕ) (done : List Bounded) (begun : Bounded) → length done < count → Completes (reading format count vars done Klause begun)
end_of_klause format count vars done begun room =
    one_more (reading format count vars done Klause begun) (reading format count vars (done ++ begun ∷ []) Between nothing) (codes "0")
    (klause_end format count vars done begun (codes "0") refl)
    (behind_all format count vars (done ++ begun ∷ []) nothing (more_room done begun count room))

from_bound : (format : Format) (count vars : ℕ) (done : List Bounded) (begun : Bounded) → length done < count → Completes (reading format count vars done Bound begun)
from_bound format count vars done begun room =
    one_more (reading format count vars done Bound begun) (reading format count vars done Klause (with_bound begun 0)) (codes "0")
    (bound_number format count vars done begun (codes "0") 0 refl (omega arith))
    (end_of_klause format count vars done (with_bound begun 0) room)

abbrev first_variable : Literal
first_variable = record { variable = 1; positive = true }

from_guard : (format : Format) (count vars : ℕ) (done : List Bounded) (begun : Bounded) → 1 ≤ vars → length done < count → Completes (reading format count vars done Guard begun)
from_guard format count vars done begun known room =
    one_more (reading format count vars done Guard begun) (reading format count vars done Bound (guarded_klause first_variable 0 [])) (codes "1")
    (guard_literal format count vars done begun (codes "1") first_variable refl known)
    (from_bound format count vars done (guarded_klause first_variable 0 []) room)

-- a place where a guard is asked for has a variable for it
knows_one : (format : Format) (vars : ℕ) → (format ≡ Cnf) ⊎ (1 ≤ vars) → format ≡ Knf → 1 ≤ vars
knows_one format vars (inl cnf) knf = let no : Cnf ≡ Knf = sym cnf ∙ knf in absurd cc
knows_one format vars (inr known) knf = known

from_place : (place : Place) (format : Format) (count vars : ℕ) (done : List Bounded) (begun : Bounded) → (format ≡ Cnf) ⊎ (1 ≤ vars) → HasRoom place done count
    → (place ≡ Guard → format ≡ Knf) → Completes (reading format count vars done place begun)
from_place Between format count vars done begun known room kind = behind_all format count vars done begun room
from_place Guard format count vars done begun known room kind = from_guard format count vars done begun (knows_one format vars known (kind refl)) room
from_place Bound format count vars done begun known room kind = from_bound format count vars done begun room
from_place Clause format count vars done begun known room kind = end_of_clause format count vars done begun room
from_place Klause format count vars done begun known room kind = end_of_klause format count vars done begun room

pub can_be_completed : (format : Format) (count vars : ℕ) (s : Reading) → (format ≡ Cnf) ⊎ (1 ≤ vars) → Reached format count vars s → Completes s
can_be_completed format count vars s known at = subst Completes (sym at.same) (from_place at.place format count vars at.done at.begun known at.room at.kind)
