-- What a word makes of a reading, where it is a word that may stand there.
use Rattle.std.proofs.Common.{◌≡◌, ℕ, ◌≤◌, ◌==◌, nat_lt, Bool, true, false, List, [], ◌∷◌, ◌++◌, length, Option, Some, None, Ok, refl, ap}
use Rattle.std.proofs.lemmas.Bool.{le-ltb}
use Rattle.std.proofs.lemmas.Slice.Eq.{bytes_eq-Decides}
use Rattle.std.specs.Prelude.{codes}
use Rattle.std.specs.Str.{bytes_eq}
use Rattle.kn_logic.specs.Literals.{Literal, names}
use Rattle.kn_logic.specs.Constraints.{Bounded, clause, guarded_klause, named}
use Rattle.kn_text.specs.Numbers.{number_of, literal_of, is_end}
use Rattle.kn_text.proofs.Public.{literal_is_no_end}
use Rattle.kn_format.specs.declared.format.Format.{Format}
use Rattle.kn_format.specs.declared.format.Format.TheVariants.{Cnf, Knf}
use Rattle.kn_format.specs.declared.place.Place.{Place}
use Rattle.kn_format.specs.declared.place.Place.TheVariants.{Between, Guard, Bound, Clause, Klause}
use Rattle.kn_format.specs.Grammar.{highest_bound}
use Rattle.kn_format.specs.Faults.{Reading, nothing, with_literal, with_bound, marks, after, ◌>>=◌, after_words}

abbrev pub reading : Format → ℕ → ℕ → List Bounded → Place → Bounded → Reading
reading format count vars done place begun = record { format = format; count = count; formula = record { vars = vars; constraints = done }; place = place; begun = begun }

pub step : (r next : Reading) (word : List ℕ) (words : List (List ℕ)) → after r word ≡ Ok next → after_words r (word ∷ words) ≡ after_words next words
step r next word words e = ap (λ x. x >>= λ n. after_words n words) e

-- a word that is no literal
no_literal-at : (word : List ℕ) (o : Option Literal) → literal_of word ≡ o → is_end word ≡ true → literal_of word ≡ None
no_literal-at word None e ends = e
no_literal-at word (Some l) e ends = let no : is_end word ≡ false = literal_is_no_end word l e in absurd cc

pub end_is_no_literal : (word : List ℕ) → is_end word ≡ true → literal_of word ≡ None
end_is_no_literal word ends = no_literal-at word (literal_of word) refl ends

-- a word that marks no klause
no_mark-at : (word mark : List ℕ) (t : Bool) → bytes_eq word mark ≡ t → (word ≡ mark → ⊥) → bytes_eq word mark ≡ false
no_mark-at word mark true e differ = absurd (differ ((bytes_eq-Decides word mark).0 e))
no_mark-at word mark false e differ = e

pub no_mark : (format : Format) (word mark : List ℕ) → (word ≡ mark → ⊥) → marks format word mark ≡ false
no_mark Cnf word mark differ = refl
no_mark Knf word mark differ = no_mark-at word mark (bytes_eq word mark) refl differ

literal_is_not : (word mark : List ℕ) (l : Literal) → literal_of word ≡ Some l → literal_of mark ≡ None → word ≡ mark → ⊥
literal_is_not word mark l e none same = cc (ap literal_of same)

end_is_not : (word mark : List ℕ) → is_end word ≡ true → is_end mark ≡ false → word ≡ mark → ⊥
end_is_not word mark e other same = cc (ap is_end same)

pub mark_is : (word : List ℕ) (mark : List ℕ) → word ≡ mark → bytes_eq word mark ≡ true
mark_is word mark e = (bytes_eq-Decides word mark).1 e

pub is_not_above : (vars : ℕ) (l : Literal) → l.variable ≤ vars → nat_lt vars l.variable ≡ false
is_not_above vars l h = le-ltb vars l.variable h

pub between_literal : (format : Format) (count vars : ℕ) (done : List Bounded) (begun : Bounded) (word : List ℕ) (l : Literal)
    → literal_of word ≡ Some l → l.variable ≤ vars → (length done == count) ≡ false
    → after (reading format count vars done Between begun) word ≡ Ok (reading format count vars done Clause (clause (l ∷ [])))
between_literal format count vars done begun word l e known room =
    let k : marks format word (codes "k") ≡ false = no_mark format word (codes "k") (literal_is_not word (codes "k") l e refl) in
    let q : marks format word (codes "q") ≡ false = no_mark format word (codes "q") (literal_is_not word (codes "q") l e refl) in
    let above : nat_lt vars l.variable ≡ false = is_not_above vars l known in
    rw (k, q, e, above, room) refl

pub between_end : (format : Format) (count vars : ℕ) (done : List Bounded) (begun : Bounded) (word : List ℕ)
    → is_end word ≡ true → (length done == count) ≡ false
    → after (reading format count vars done Between begun) word ≡ Ok (reading format count vars (done ++ clause [] ∷ []) Between nothing)
between_end format count vars done begun word e room =
    let k : marks format word (codes "k") ≡ false = no_mark format word (codes "k") (end_is_not word (codes "k") e refl) in
    let q : marks format word (codes "q") ≡ false = no_mark format word (codes "q") (end_is_not word (codes "q") e refl) in
    let none : literal_of word ≡ None = end_is_no_literal word e in
    rw (k, q, none, e, room) refl

pub between_k : (count vars : ℕ) (done : List Bounded) (begun : Bounded) (word : List ℕ)
    → word ≡ codes "k" → (length done == count) ≡ false
    → after (reading Knf count vars done Between begun) word ≡ Ok (reading Knf count vars done Bound nothing)
between_k count vars done begun word e room = let k : bytes_eq word (codes "k") ≡ true = mark_is word (codes "k") e in rw (k, room) refl

q_is_not_k : (word : List ℕ) → word ≡ codes "q" → bytes_eq word (codes "k") ≡ false
q_is_not_k word e = ap (λ w. bytes_eq w (codes "k")) e

pub between_q : (count vars : ℕ) (done : List Bounded) (begun : Bounded) (word : List ℕ)
    → word ≡ codes "q" → (length done == count) ≡ false
    → after (reading Knf count vars done Between begun) word ≡ Ok (reading Knf count vars done Guard nothing)
between_q count vars done begun word e room =
    let k : bytes_eq word (codes "k") ≡ false = q_is_not_k word e in
    let q : bytes_eq word (codes "q") ≡ true = mark_is word (codes "q") e in
    rw (k, q, room) refl

pub guard_literal : (format : Format) (count vars : ℕ) (done : List Bounded) (begun : Bounded) (word : List ℕ) (l : Literal)
    → literal_of word ≡ Some l → l.variable ≤ vars
    → after (reading format count vars done Guard begun) word ≡ Ok (reading format count vars done Bound (guarded_klause l 0 []))
guard_literal format count vars done begun word l e known = let above : nat_lt vars l.variable ≡ false = is_not_above vars l known in rw (e, above) refl

pub bound_number : (format : Format) (count vars : ℕ) (done : List Bounded) (begun : Bounded) (word : List ℕ) (n : ℕ)
    → number_of word ≡ Some n → n ≤ highest_bound
    → after (reading format count vars done Bound begun) word ≡ Ok (reading format count vars done Klause (with_bound begun n))
bound_number format count vars done begun word n e small = let low : nat_lt highest_bound n ≡ false = le-ltb highest_bound n small in rw (e, low) refl

pub clause_literal : (format : Format) (count vars : ℕ) (done : List Bounded) (begun : Bounded) (word : List ℕ) (l : Literal)
    → literal_of word ≡ Some l → l.variable ≤ vars
    → after (reading format count vars done Clause begun) word ≡ Ok (reading format count vars done Clause (with_literal begun l))
clause_literal format count vars done begun word l e known = let above : nat_lt vars l.variable ≡ false = is_not_above vars l known in rw (e, above) refl

pub clause_end : (format : Format) (count vars : ℕ) (done : List Bounded) (begun : Bounded) (word : List ℕ)
    → is_end word ≡ true
    → after (reading format count vars done Clause begun) word ≡ Ok (reading format count vars (done ++ begun ∷ []) Between nothing)
clause_end format count vars done begun word e = let none : literal_of word ≡ None = end_is_no_literal word e in rw (none, e) refl

pub klause_literal : (format : Format) (count vars : ℕ) (done : List Bounded) (begun : Bounded) (word : List ℕ) (l : Literal)
    → literal_of word ≡ Some l → l.variable ≤ vars → names (named begun) l.variable ≡ false
    → after (reading format count vars done Klause begun) word ≡ Ok (reading format count vars done Klause (with_literal begun l))
klause_literal format count vars done begun word l e known apart = let above : nat_lt vars l.variable ≡ false = is_not_above vars l known in rw (e, above, apart) refl

pub klause_end : (format : Format) (count vars : ℕ) (done : List Bounded) (begun : Bounded) (word : List ℕ)
    → is_end word ≡ true
    → after (reading format count vars done Klause begun) word ≡ Ok (reading format count vars (done ++ begun ∷ []) Between nothing)
klause_end format count vars done begun word e = let none : literal_of word ≡ None = end_is_no_literal word e in rw (none, e) refl
