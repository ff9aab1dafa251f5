-- What is read was spelled.
use Rattle.std.proofs.Common.{◌≡◌, ℕ, ◌≤◌, ◌==◌, nat_lt, Bool, true, false, if◌then◌else◌, List, [], ◌∷◌, ◌++◌, length, Option, Some, None, Ok, Err, refl, sym, ap, subst, ◌∙◌, append_assoc, inl, inr}
use Rattle.std.proofs.lemmas.List.{append-nil}
use Rattle.std.proofs.lemmas.Bool.{ltb-false}
use Rattle.std.proofs.lemmas.Slice.Eq.{bytes_eq-Decides}
use Rattle.std.specs.Prelude.{Result, codes}
use Rattle.std.specs.Str.{bytes_eq}
use Rattle.std.specs.List.{AllByRecursion}
use Rattle.kn_logic.proofs.Public.{known-append, different-push}
use Rattle.kn_logic.specs.Literals.{Literal, IsKnown, AreDifferent, names}
use Rattle.kn_logic.specs.Constraints.{Bounded, clause, klause, guarded_klause, named, is_clause, IsWithin, Fits}
use Rattle.kn_text.specs.Numbers.{number_of, literal_of, is_end}
use Rattle.kn_text.proofs.Public.{literal_of_writable}
use Rattle.kn_format.specs.declared.format.Format.{Format}
use Rattle.kn_format.specs.declared.format.Format.TheVariants.{Cnf, Knf}
use Rattle.kn_format.specs.declared.place.Place.{Place}
use Rattle.kn_format.specs.declared.place.Place.TheVariants.{Between, Guard, Bound, Clause, Klause}
use Rattle.kn_format.specs.Grammar.{highest_bound, ClauseThen, BoundThen, KlauseThen, GuardThen, ConstraintThen, SpellConstraints}
use Rattle.kn_format.specs.Faults.{Reading, nothing, with_literal, with_bound, begin, empty_clause, first_word, guard, bound, within_clause, within_klause, after, after_words, ◌>>=◌, bad_token, variable_above_header, bound_too_large, repeated_variable, extra_constraint}
use Rattle.kn_format.specs.Reading.{is_marked}
use Rattle.kn_format.proofs.Begun.{named_more}
use Rattle.kn_format.proofs.Steps.{reading}
use Rattle.kn_format.proofs.Spelled.{Then, joined, Rest}

pub unless : {A E : Type 0} (t : Bool) (cause : E) (x : Result A E) (s : A) → (if t then Err cause else x) ≡ Ok s → (t ≡ false) × (x ≡ Ok s)
unless true cause x s e = absurd cc
unless false cause x s e = (refl, e)

pub when : {A E : Type 0} (t : Bool) (cause : E) (x : Result A E) (s : A) → (if t then x else Err cause) ≡ Ok s → (t ≡ true) × (x ≡ Ok s)
when true cause x s e = (refl, e)
when false cause x s e = absurd cc

abbrev pub okay : {A : Type 0} → A → Result A ℕ
okay r = Ok r

pub is_ok : {A : Type 0} (r s : A) → okay r ≡ okay s → r ≡ s
is_ok r s e = cc

pub first_step : (x : Result Reading ℕ) (next : Reading → Result Reading ℕ) (s : Reading) → (x >>= next) ≡ Ok s → (r : Reading) × (x ≡ Ok r) × (next r ≡ Ok s)
first_step (Ok r) next s e = (r, refl, e)
first_step (Err cause) next s e = absurd cc

-- what holds of a reading
record Good (vars : ℕ) (place : Place) (begun : Bounded) : Type 0 where
  within : IsWithin vars begun
  clause : place ≡ Clause → is_clause begun ≡ true
  different : is_marked place ≡ true → AreDifferent (named begun)

good_nothing : (vars : ℕ) (place : Place) → (place ≡ Clause → ⊥) → Good vars place nothing
good_nothing vars place other = record { within = record { guard = tt; lits = tt }; clause = λ e. absurd (other e); different = λ e. tt }

-- what the words from a place on spell, where they are read to their end
record Found (format : Format) (count vars : ℕ) (done : List Bounded) (place : Place) (begun : Bounded) (words : List (List ℕ)) (s : Reading) : Type 0 where
  cs : List Bounded
  kept : s.count ≡ count
  formula : s.formula ≡ record { vars = vars; constraints = done ++ cs }
  rest : Rest format place begun words cs
  fits : AllByRecursion (Fits vars) cs

abbrev IsSpelled : List (List ℕ) → Type 0
IsSpelled words = (format : Format) (count vars : ℕ) (done : List Bounded) (place : Place) (begun : Bounded) (s : Reading)
    → Good vars place begun → after_words (reading format count vars done place begun) words ≡ Ok s → s.place ≡ Between
    → Found format count vars done place begun words s

-- the constraint that was begun is complete, and others follow
followed : (format : Format) (count vars : ℕ) (done : List Bounded) (c : Bounded) (place : Place) (begun : Bounded) (word : List ℕ) (words : List (List ℕ)) (s : Reading)
    → (f : Found format count vars (done ++ c ∷ []) Between nothing words s) → Fits vars c → Rest format place begun (word ∷ words) (c ∷ f.cs)
    → Found format count vars done place begun (word ∷ words) s
followed format count vars done c place begun word words s f fits rest = record {
  cs = c ∷ f.cs;
  kept = f.kept;
  formula = f.formula ∙ ap (λ cs. record { vars = vars; constraints = cs }) (append_assoc done (c ∷ []) f.cs);
  rest = rest;
  fits = (fits, f.fits);
}

-- the constraint that is begun goes on
goes_on : (format : Format) (count vars : ℕ) (done : List Bounded) (place next : Place) (begun more : Bounded) (word : List ℕ) (words : List (List ℕ)) (s : Reading)
    → Found format count vars done next more words s
    → ((cs : List Bounded) → Rest format next more words cs → Rest format place begun (word ∷ words) cs)
    → Found format count vars done place begun (word ∷ words) s
goes_on format count vars done place next begun more word words s f back = record { cs = f.cs; kept = f.kept; formula = f.formula; rest = back f.cs f.rest; fits = f.fits }

known : (vars : ℕ) (word : List ℕ) (l : Literal) → literal_of word ≡ Some l → nat_lt vars l.variable ≡ false → IsKnown vars l
known vars word l e above = ((literal_of_writable word l e).0, ltb-false vars l.variable above)

at_next : (r next s : Reading) (words : List (List ℕ)) → okay r ≡ okay next → after_words next words ≡ Ok s → after_words r words ≡ Ok s
at_next r next s words e read = ap (λ x. after_words x words) (is_ok r next e) ∙ read

literal_back : (begun : Bounded) (l : Literal) (lits : List Literal) (c : Bounded) → c ≡ joined (with_literal begun l) lits → c ≡ joined begun (l ∷ lits)
literal_back begun l lits c e = e ∙ ap (λ ls. record begun { lits = ls }) (append_assoc begun.lits (l ∷ []) lits)

whole_begun : (begun : Bounded) → begun ≡ joined begun []
whole_begun begun = ap (λ ls. record begun { lits = ls }) (sym (append-nil begun.lits))

-- within a clause
clause_goes_on : (format : Format) (begun : Bounded) (word : List ℕ) (words : List (List ℕ)) (l : Literal) → literal_of word ≡ Some l
    → (cs : List Bounded) → Rest format Clause (with_literal begun l) words cs → Rest format Clause begun (word ∷ words) cs
clause_goes_on format begun word words l e [] rest = rest
clause_goes_on format begun word words l e (c ∷ cs) rest = record { lits = l ∷ rest.lits; whole = literal_back begun l rest.lits c rest.whole; spelled = (e, rest.spelled) }

good_clause : (vars : ℕ) (begun : Bounded) (l : Literal) → Good vars Clause begun → IsKnown vars l → Good vars Clause (with_literal begun l)
good_clause vars begun l good k = record {
  within = record { guard = good.within.guard; lits = known-append vars begun.lits (l ∷ []) good.within.lits (k, tt) };
  clause = good.clause;
  different = λ e. absurd cc;
}

in_clause : (word : List ℕ) (words : List (List ℕ)) (more : IsSpelled words) (format : Format) (count vars : ℕ) (done : List Bounded) (begun : Bounded) (next s : Reading) (o : Option Literal)
    → Good vars Clause begun → literal_of word ≡ o → within_clause (reading format count vars done Clause begun) word o ≡ Ok next → after_words next words ≡ Ok s → s.place ≡ Between
    → Found format count vars done Clause begun (word ∷ words) s
in_clause word words more format count vars done begun next s (Some l) good e read behind last =
    let u = unless (nat_lt vars l.variable) variable_above_header (Ok (reading format count vars done Clause (with_literal begun l))) next read in
    goes_on format count vars done Clause Clause begun (with_literal begun l) word words s
    (more format count vars done Clause (with_literal begun l) s (good_clause vars begun l good (known vars word l e u.0)) (at_next _ next s words u.1 behind) last)
    (clause_goes_on format begun word words l e)
in_clause word words more format count vars done begun next s None good e read behind last =
    let u = when (is_end word) bad_token (Ok (reading format count vars (done ++ begun ∷ []) Between nothing)) next read in
    let f : Found format count vars (done ++ begun ∷ []) Between nothing words s =
    more format count vars (done ++ begun ∷ []) Between nothing s (good_nothing vars Between (λ e. cc)) (at_next _ next s words u.1 behind) last in
    followed format count vars done begun Clause begun word words s f
    (record { within = good.within; different = λ is. let yes : is_clause begun ≡ true = good.clause refl in absurd cc })
    (record { lits = []; whole = whole_begun begun; spelled = (u.0, f.rest) })

-- within a klause
klause_goes_on : (format : Format) (begun : Bounded) (word : List ℕ) (words : List (List ℕ)) (l : Literal) → literal_of word ≡ Some l
    → (cs : List Bounded) → Rest format Klause (with_literal begun l) words cs → Rest format Klause begun (word ∷ words) cs
klause_goes_on format begun word words l e [] rest = rest
klause_goes_on format begun word words l e (c ∷ cs) rest =
    record { lits = l ∷ rest.lits; whole = literal_back begun l rest.lits c rest.whole; spelled = (e, rest.spelled); different = rest.different }

good_klause : (vars : ℕ) (begun : Bounded) (l : Literal) → Good vars Klause begun → IsKnown vars l → names (named begun) l.variable ≡ false → Good vars Klause (with_literal begun l)
good_klause vars begun l good k apart = record {
  within = record { guard = good.within.guard; lits = known-append vars begun.lits (l ∷ []) good.within.lits (k, tt) };
  clause = λ e. absurd cc;
  different = λ e. rw named_more (different-push (named begun) l (good.different refl) apart);
}

in_klause : (word : List ℕ) (words : List (List ℕ)) (more : IsSpelled words) (format : Format) (count vars : ℕ) (done : List Bounded) (begun : Bounded) (next s : Reading) (o : Option Literal)
    → Good vars Klause begun → literal_of word ≡ o → within_klause (reading format count vars done Klause begun) word o ≡ Ok next → after_words next words ≡ Ok s → s.place ≡ Between
    → Found format count vars done Klause begun (word ∷ words) s
in_klause word words more format count vars done begun next s (Some l) good e read behind last =
    let u = unless (nat_lt vars l.variable) variable_above_header (if names (named begun) l.variable then Err repeated_variable else Ok (reading format count vars done Klause (with_literal begun l))) next read in
    let v = unless (names (named begun) l.variable) repeated_variable (Ok (reading format count vars done Klause (with_literal begun l))) next u.1 in
    goes_on format count vars done Klause Klause begun (with_literal begun l) word words s
    (more format count vars done Klause (with_literal begun l) s (good_klause vars begun l good (known vars word l e u.0) v.0) (at_next _ next s words v.1 behind) last)
    (klause_goes_on format begun word words l e)
in_klause word words more format count vars done begun next s None good e read behind last =
    let u = when (is_end word) bad_token (Ok (reading format count vars (done ++ begun ∷ []) Between nothing)) next read in
    let f : Found format count vars (done ++ begun ∷ []) Between nothing words s =
    more format count vars (done ++ begun ∷ []) Between nothing s (good_nothing vars Between (λ e. cc)) (at_next _ next s words u.1 behind) last in
    followed format count vars done begun Klause begun word words s f
    (record { within = good.within; different = λ _. good.different refl })
    (record { lits = []; whole = whole_begun begun; spelled = (u.0, f.rest); different = good.different refl })

-- behind `k` or a guard
bound_goes_on : (format : Format) (begun : Bounded) (word : List ℕ) (words : List (List ℕ)) (n : ℕ) → number_of word ≡ Some n → n ≤ highest_bound
    → (cs : List Bounded) → Rest format Klause (with_bound begun n) words cs → Rest format Bound begun (word ∷ words) cs
bound_goes_on format begun word words n e small [] rest = rest
bound_goes_on format begun word words n e small (c ∷ cs) rest = record { bound = n; lits = rest.lits; whole = rest.whole; spelled = (e, small, rest.spelled); different = rest.different }

at_bound : (word : List ℕ) (words : List (List ℕ)) (more : IsSpelled words) (format : Format) (count vars : ℕ) (done : List Bounded) (begun : Bounded) (next s : Reading) (o : Option ℕ)
    → Good vars Bound begun → number_of word ≡ o → bound (reading format count vars done Bound begun) o ≡ Ok next → after_words next words ≡ Ok s → s.place ≡ Between
    → Found format count vars done Bound begun (word ∷ words) s
at_bound word words more format count vars done begun next s (Some n) good e read behind last =
    let u = unless (nat_lt highest_bound n) bound_too_large (Ok (reading format count vars done Klause (with_bound begun n))) next read in
    goes_on format count vars done Bound Klause begun (with_bound begun n) word words s
    (more format count vars done Klause (with_bound begun n) s
    (record { within = record { guard = good.within.guard; lits = good.within.lits }; clause = λ e. absurd cc; different = λ e. good.different refl })
    (at_next _ next s words u.1 behind) last)
    (bound_goes_on format begun word words n e (ltb-false highest_bound n u.0))
at_bound word words more format count vars done begun next s None good e read behind last = absurd cc

guard_then : (format : Format) (cs : List Bounded) (words : List (List ℕ)) (guard : Option Literal) (bound : ℕ) (lits : List Literal)
    → BoundThen (Then format cs) words (klause bound lits) → BoundThen (Then format cs) words (record { guard = guard; bound = bound; lits = lits })
guard_then format cs [] guard bound lits spelled = spelled
guard_then format cs (word ∷ words) guard bound lits spelled = spelled

-- behind `q`
guard_goes_on : (format : Format) (begun : Bounded) (word : List ℕ) (words : List (List ℕ)) (l : Literal) → literal_of word ≡ Some l
    → (cs : List Bounded) → Rest format Bound (guarded_klause l 0 []) words cs → Rest format Guard begun (word ∷ words) cs
guard_goes_on format begun word words l e [] rest = rest
guard_goes_on format begun word words l e (c ∷ cs) rest = record {
  spelled = subst (λ (d : Bounded). GuardThen (Then format cs) (word ∷ words) d) (sym rest.whole)
      (refl, e, guard_then format cs words (Some l) rest.bound rest.lits rest.spelled);
  different = rest.different;
}

at_guard : (word : List ℕ) (words : List (List ℕ)) (more : IsSpelled words) (format : Format) (count vars : ℕ) (done : List Bounded) (begun : Bounded) (next s : Reading) (o : Option Literal)
    → literal_of word ≡ o → guard (reading format count vars done Guard begun) o ≡ Ok next → after_words next words ≡ Ok s → s.place ≡ Between
    → Found format count vars done Guard begun (word ∷ words) s
at_guard word words more format count vars done begun next s (Some l) e read behind last =
    let u = unless (nat_lt vars l.variable) variable_above_header (Ok (reading format count vars done Bound (guarded_klause l 0 []))) next read in
    goes_on format count vars done Guard Bound begun (guarded_klause l 0 []) word words s
    (more format count vars done Bound (guarded_klause l 0 []) s
    (record { within = record { guard = known vars word l e u.0; lits = tt }; clause = λ e. absurd cc; different = λ e. (refl, tt) })
    (at_next _ next s words u.1 behind) last)
    (guard_goes_on format begun word words l e)
at_guard word words more format count vars done begun next s None e read behind last = absurd cc

-- where a constraint begins
as_clause : (format : Format) (behind : List (List ℕ) → Type 0) (word : List ℕ) (words : List (List ℕ)) (c : Bounded) → ClauseThen behind (word ∷ words) c → ConstraintThen format behind (word ∷ words) c
as_clause Cnf behind word words c spelled = spelled
as_clause Knf behind word words c spelled = inl spelled

clause_begins : (format : Format) (begun : Bounded) (word : List ℕ) (words : List (List ℕ)) (l : Literal) → literal_of word ≡ Some l
    → (cs : List Bounded) → Rest format Clause (clause (l ∷ [])) words cs → Rest format Between begun (word ∷ words) cs
clause_begins format begun word words l e [] rest = absurd rest
clause_begins format begun word words l e (c ∷ cs) rest =
    as_clause format (Then format cs) word words c
    (subst (λ (d : Bounded). ClauseThen (Then format cs) (word ∷ words) d) (sym rest.whole) (refl, (e, rest.spelled)))

at_first : (word : List ℕ) (words : List (List ℕ)) (more : IsSpelled words) (format : Format) (count vars : ℕ) (done : List Bounded) (begun : Bounded) (next s : Reading) (o : Option Literal)
    → literal_of word ≡ o → first_word (reading format count vars done Between begun) word o ≡ Ok next → after_words next words ≡ Ok s → s.place ≡ Between
    → Found format count vars done Between begun (word ∷ words) s
at_first word words more format count vars done begun next s (Some l) e read behind last =
    let u = unless (nat_lt vars l.variable) variable_above_header (begin (reading format count vars done Between begun) Clause (clause (l ∷ []))) next read in
    let v = unless (length done == count) extra_constraint (Ok (reading format count vars done Clause (clause (l ∷ [])))) next u.1 in
    goes_on format count vars done Between Clause begun (clause (l ∷ [])) word words s
    (more format count vars done Clause (clause (l ∷ [])) s
    (record { within = record { guard = tt; lits = (known vars word l e u.0, tt) }; clause = λ e. refl; different = λ e. absurd cc })
    (at_next _ next s words v.1 behind) last)
    (clause_begins format begun word words l e)
at_first word words more format count vars done begun next s None e read behind last =
    let u = when (is_end word) bad_token (empty_clause (reading format count vars done Between begun)) next read in
    let v = unless (length done == count) extra_constraint (Ok (reading format count vars (done ++ clause [] ∷ []) Between nothing)) next u.1 in
    let f : Found format count vars (done ++ clause [] ∷ []) Between nothing words s =
    more format count vars (done ++ clause [] ∷ []) Between nothing s (good_nothing vars Between (λ e. cc)) (at_next _ next s words v.1 behind) last in
    followed format count vars done (clause []) Between begun word words s f
    (record { within = record { guard = tt; lits = tt }; different = λ e. tt })
    (as_clause format (Then format f.cs) word words (clause []) (refl, (u.0, f.rest)))

k_begins : (begun : Bounded) (word : List ℕ) (words : List (List ℕ)) → word ≡ codes "k"
    → (cs : List Bounded) → Rest Knf Bound nothing words cs → Rest Knf Between begun (word ∷ words) cs
k_begins begun word words e [] rest = absurd rest
k_begins begun word words e (c ∷ cs) rest =
    inr (inl (e, subst (λ (d : Bounded). KlauseThen (Then Knf cs) words d) (sym rest.whole) (refl, rest.spelled)), rest.different)

q_begins : (begun : Bounded) (word : List ℕ) (words : List (List ℕ)) → word ≡ codes "q"
    → (cs : List Bounded) → Rest Knf Guard nothing words cs → Rest Knf Between begun (word ∷ words) cs
q_begins begun word words e [] rest = absurd rest
q_begins begun word words e (c ∷ cs) rest = inr (inr (e, rest.spelled), rest.different)

at_q : (word : List ℕ) (words : List (List ℕ)) (more : IsSpelled words) (count vars : ℕ) (done : List Bounded) (begun : Bounded) (next s : Reading) (t : Bool)
    → bytes_eq word (codes "q") ≡ t
    → (if t then begin (reading Knf count vars done Between begun) Guard nothing else first_word (reading Knf count vars done Between begun) word (literal_of word)) ≡ Ok next
    → after_words next words ≡ Ok s → s.place ≡ Between
    → Found Knf count vars done Between begun (word ∷ words) s
at_q word words more count vars done begun next s true e read behind last =
    let u = unless (length done == count) extra_constraint (Ok (reading Knf count vars done Guard nothing)) next read in
    goes_on Knf count vars done Between Guard begun nothing word words s
    (more Knf count vars done Guard nothing s (good_nothing vars Guard (λ e. cc)) (at_next _ next s words u.1 behind) last)
    (q_begins begun word words ((bytes_eq-Decides word (codes "q")).0 e))
at_q word words more count vars done begun next s false e read behind last =
    at_first word words more Knf count vars done begun next s (literal_of word) refl read behind last

at_k : (word : List ℕ) (words : List (List ℕ)) (more : IsSpelled words) (count vars : ℕ) (done : List Bounded) (begun : Bounded) (next s : Reading) (t : Bool)
    → bytes_eq word (codes "k") ≡ t
    → (if t then begin (reading Knf count vars done Between begun) Bound nothing
    else (if bytes_eq word (codes "q") then begin (reading Knf count vars done Between begun) Guard nothing else first_word (reading Knf count vars done Between begun) word (literal_of word))) ≡ Ok next
    → after_words next words ≡ Ok s → s.place ≡ Between
    → Found Knf count vars done Between begun (word ∷ words) s
at_k word words more count vars done begun next s true e read behind last =
    let u = unless (length done == count) extra_constraint (Ok (reading Knf count vars done Bound nothing)) next read in
    goes_on Knf count vars done Between Bound begun nothing word words s
    (more Knf count vars done Bound nothing s (good_nothing vars Bound (λ e. cc)) (at_next _ next s words u.1 behind) last)
    (k_begins begun word words ((bytes_eq-Decides word (codes "k")).0 e))
at_k word words more count vars done begun next s false e read behind last =
    at_q word words more count vars done begun next s (bytes_eq word (codes "q")) refl read behind last

at_between : (word : List ℕ) (words : List (List ℕ)) (more : IsSpelled words) (format : Format) (count vars : ℕ) (done : List Bounded) (begun : Bounded) (next s : Reading)
    → after (reading format count vars done Between begun) word ≡ Ok next → after_words next words ≡ Ok s → s.place ≡ Between
    → Found format count vars done Between begun (word ∷ words) s
at_between word words more Cnf count vars done begun next s read behind last = at_first word words more Cnf count vars done begun next s (literal_of word) refl read behind last
at_between word words more Knf count vars done begun next s read behind last = at_k word words more count vars done begun next s (bytes_eq word (codes "k")) refl read behind last

at_place : (word : List ℕ) (words : List (List ℕ)) (more : IsSpelled words) (format : Format) (count vars : ℕ) (done : List Bounded) (place : Place) (begun : Bounded) (next s : Reading)
    → Good vars place begun → after (reading format count vars done place begun) word ≡ Ok next → after_words next words ≡ Ok s → s.place ≡ Between
    → Found format count vars done place begun (word ∷ words) s
at_place word words more format count vars done Between begun next s good read behind last = at_between word words more format count vars done begun next s read behind last
at_place word words more format count vars done Guard begun next s good read behind last = at_guard word words more format count vars done begun next s (literal_of word) refl read behind last
at_place word words more format count vars done Bound begun next s good read behind last = at_bound word words more format count vars done begun next s (number_of word) good refl read behind last
at_place word words more format count vars done Clause begun next s good read behind last = in_clause word words more format count vars done begun next s (literal_of word) good refl read behind last
at_place word words more format count vars done Klause begun next s good read behind last = in_klause word words more format count vars done begun next s (literal_of word) good refl read behind last

-- no constraint is begun at the end
at_the_end : (format : Format) (count vars : ℕ) (done : List Bounded) (place : Place) (begun : Bounded) (s : Reading) → reading format count vars done place begun ≡ s → s.place ≡ Between
    → Found format count vars done place begun [] s
at_the_end format count vars done Between begun s e last = record {
  cs = [];
  kept = sym (ap (λ (r : Reading). r.count) e);
  formula = sym (ap (λ (r : Reading). r.formula) e) ∙ ap (λ cs. record { vars = vars; constraints = cs }) (sym (append-nil done));
  rest = refl;
  fits = tt;
}
at_the_end format count vars done Guard begun s e last = let p : Guard ≡ Between = ap (λ (r : Reading). r.place) e ∙ last in absurd cc
at_the_end format count vars done Bound begun s e last = let p : Bound ≡ Between = ap (λ (r : Reading). r.place) e ∙ last in absurd cc
at_the_end format count vars done Clause begun s e last = let p : Clause ≡ Between = ap (λ (r : Reading). r.place) e ∙ last in absurd cc
at_the_end format count vars done Klause begun s e last = let p : Klause ≡ Between = ap (λ (r : Reading). r.place) e ∙ last in absurd cc

is_spelled : (words : List (List ℕ)) → IsSpelled words
is_spelled [] format count vars done place begun s good read last = at_the_end format count vars done place begun s (is_ok _ s read) last
is_spelled (word ∷ words) format count vars done place begun s good read last =
    let f = first_step (after (reading format count vars done place begun) word) (λ n. after_words n words) s read in
    at_place word words (is_spelled words) format count vars done place begun f.0 s good f.1 f.2 last

-- words that are read from the start to where no constraint is begun spell the constraints that were read
pub constraints_are_spelled : (format : Format) (count vars : ℕ) (words : List (List ℕ)) (s : Reading) → after_words (reading format count vars [] Between nothing) words ≡ Ok s → s.place ≡ Between
    → (cs : List Bounded) × (s.count ≡ count) × (s.formula ≡ record { vars = vars; constraints = cs }) × SpellConstraints format words cs × AllByRecursion (Fits vars) cs
constraints_are_spelled format count vars words s read last =
    let f : Found format count vars [] Between nothing words s = is_spelled words format count vars [] Between nothing s (good_nothing vars Between (λ e. cc)) read last in
    (f.cs, f.kept, f.formula, f.rest, f.fits)
