-- What a walk leaves: sets that have grown, and tables that have shrunk by what gives nothing new.
use Rattle.std.proofs.Common.{◌≡◌, ℕ, suc, ◌+◌, ◌≤◌, ◌<◌, ◌==◌, Bool, true, false, not, cond, ◌&&◌, ◌||◌, List, [], ◌∷◌, ◌++◌, length, drop, set, get_or, refl, sym, ap, subst, ◌∙◌, inl, inr, arith, true≢false}
use Rattle.std.specs.Prelude.{◌⊎◌, zero, nat_eq}
use Rattle.std.specs.List.{list_any, AllByRecursion}
use Rattle.std.proofs.lemmas.Bool.{or_left, or_right, or_cases, or_parts, and_parts, eqb-true, eqb-false, eq-eqb, cond-true, and_from}
use Rattle.std.proofs.lemmas.List.{length-set, get_or-set_same, get_or-set_other, drop_all, drop_more, get_or_default}
use Rattle.indexmap.specs.IndexSet.{insert_key}
use Rattle.kn_logic.specs.Groups.{is_among}
use Rattle.kn_store.proofs.Public.{all-one}
use Rattle.kn_guess.specs.Walks.{kept, is_near, Thins, AllThin, Grows, HasAll, IsWithin}
use Rattle.kn_guess.proofs.Elements.{any-with, each-any, own-among, all-among, any-among, among-append, among-last}
use Rattle.kn_guess.proofs.Gathers.{extends-self, extends-trans, among-extends, apart-end}

-- sets
grows-self : (test : ℕ → Bool) (xs : List ℕ) → Grows test xs xs
grows-self test xs = record {
  extends = extends-self xs;
  apart = λ a. a;
  from = all-one (λ v. is_among xs v ≡ true) (λ v. (is_among xs v || test v) ≡ true) (λ v i. or_left (is_among xs v) (test v) i) xs (own-among xs);
}

pub grows-then : (f g : ℕ → Bool) (a b c : List ℕ) → ((v : ℕ) → g v ≡ true → f v ≡ true) → Grows f a b → Grows g b c → Grows f a c
grows-then f g a b c imp h k = record {
  extends = extends-trans a b c h.extends k.extends;
  apart = λ x. k.apart (h.apart x);
  from = all-one (λ v. (is_among b v || g v) ≡ true) (λ v. (is_among a v || f v) ≡ true)
      (λ v e. elim (or_cases (is_among b v) (g v) e) [ inl s ↦ all-among (λ w. (is_among a w || f w) ≡ true) b v h.from s | inr s ↦ or_right (is_among a v) (f v) (imp v s) ]) c k.from;
}

pub grows-in : (test : ℕ → Bool) (a b : List ℕ) (v : ℕ) → Grows test a b → is_among a v ≡ true → is_among b v ≡ true
grows-in test a b v h i = among-extends a b v h.extends i

-- one number is inserted
pub inserted : (set : List ℕ) (v : ℕ) → is_among (insert_key nat_eq set v) v ≡ true
inserted set v = at (list_any (nat_eq v) set) refl
  where
    at : (t : Bool) → list_any (nat_eq v) set ≡ t → is_among (cond t set (set ++ v ∷ [])) v ≡ true
    at true e = sym (any-among v set) ∙ e
    at false e = among-last set v

pub grows-insert : (test : ℕ → Bool) (set : List ℕ) (v : ℕ) → test v ≡ true → Grows test set (insert_key nat_eq set v)
grows-insert test set v e = at (list_any (nat_eq v) set) refl
  where
    at : (t : Bool) → list_any (nat_eq v) set ≡ t → Grows test set (cond t set (set ++ v ∷ []))
    at true f = grows-self test set
    at false f = record {
      extends = (v ∷ [], refl);
      apart = λ a. apart-end set v a (sym (any-among v set) ∙ f);
      from = ends set (grows-self test set).from;
    }
      where
        out : is_among set v ≡ false
        out = sym (any-among v set) ∙ f

        ends : (xs : List ℕ) → AllByRecursion (λ w. (is_among set w || test w) ≡ true) xs → AllByRecursion (λ w. (is_among set w || test w) ≡ true) (xs ++ v ∷ [])
        ends [] h = (or_right (is_among set v) (test v) e, tt)
        ends (x ∷ xs) h = (h.0, ends xs h.1)

inserted-within : (set : List ℕ) (v w : ℕ) → is_among (insert_key nat_eq set v) w ≡ true → (is_among set w ≡ true) ⊎ (v ≡ w)
inserted-within set v w = at (list_any (nat_eq v) set)
  where
    at : (t : Bool) → is_among (cond t set (set ++ v ∷ [])) w ≡ true → (is_among set w ≡ true) ⊎ (v ≡ w)
    at true i = inl i
    at false i = elim (or_cases (is_among set w) (is_among (v ∷ []) w) (sym (among-append set (v ∷ []) w) ∙ i)) [
      | inl s ↦ inl s
      | inr s ↦ elim (or_cases (v == w) false s) [ inl r ↦ inr (eqb-true v w r) | inr r ↦ absurd (true≢false (sym r)) ]
    ]

-- what a join does to both sets
pub record IsJoin (met new-met set new-set : List ℕ) (v : ℕ) (new : Bool) : Type 0 where
  pub new_is : new ≡ not (is_among met v)
  pub met_is : new-met ≡ insert_key nat_eq met v
  pub set_is : new-set ≡ cond (is_among met v) set (insert_key nat_eq set v)

join-in : (met new-met set new-set : List ℕ) (v : ℕ) (new : Bool) → IsJoin met new-met set new-set v new → is_among new-met v ≡ true
join-in met new-met set new-set v new j = ap (λ z. is_among z v) j.met_is ∙ inserted met v

join-met : (test : ℕ → Bool) (met new-met set new-set : List ℕ) (v : ℕ) (new : Bool) → test v ≡ true → IsJoin met new-met set new-set v new → Grows test met new-met
join-met test met new-met set new-set v new e j = subst (Grows test met) (sym j.met_is) (grows-insert test met v e)

join-set : (test : ℕ → Bool) (met new-met set new-set : List ℕ) (v : ℕ) (new : Bool) → test v ≡ true → IsJoin met new-met set new-set v new → Grows test set new-set
join-set test met new-met set new-set v new e j = subst (Grows test set) (sym j.set_is) (at (is_among met v))
  where
    at : (t : Bool) → Grows test set (cond t set (insert_key nat_eq set v))
    at true = grows-self test set
    at false = grows-insert test set v e

join-within : (met new-met set new-set : List ℕ) (v : ℕ) (new : Bool) → IsWithin met set → IsJoin met new-met set new-set v new → IsWithin new-met new-set
join-within met new-met set new-set v new h j w i = ap (λ z. is_among z w) j.set_is ∙ at (is_among met v) refl (inserted-within met v w (sym (ap (λ z. is_among z w) j.met_is) ∙ i))
  where
    at : (t : Bool) → is_among met v ≡ t → (is_among met w ≡ true) ⊎ (v ≡ w) → is_among (cond t set (insert_key nat_eq set v)) w ≡ true
    at true e (inl s) = h w s
    at true e (inr s) = h w (ap (is_among met) (sym s) ∙ e)
    at false e (inl s) = grows-in (λ x. x == v) set (insert_key nat_eq set v) w (grows-insert (λ x. x == v) set v (eq-eqb v v refl)) (h w s)
    at false e (inr s) = ap (is_among (insert_key nat_eq set v)) (sym s) ∙ inserted set v

join-none : (met new-met set new-set : List ℕ) (v : ℕ) (new : Bool) → new ≡ false → IsJoin met new-met set new-set v new → (new-met ≡ met) × (new-set ≡ set)
join-none met new-met set new-set v new e j =
    let there : is_among met v ≡ true = not-false-true (is_among met v) (sym j.new_is ∙ e) in
    (j.met_is ∙ cond-true (list_any (nat_eq v) met) met (met ++ v ∷ []) (any-among v met ∙ there), j.set_is ∙ cond-true (is_among met v) set (insert_key nat_eq set v) there)
  where
    not-false-true : (b : Bool) → not b ≡ false → b ≡ true
    not-false-true true e = refl
    not-false-true false e = absurd (true≢false e)

-- one clause, while it is walked: the variables behind a place were met
pub record IsMeeting (test : ℕ → Bool) (start vars met0 met set0 set : List ℕ) (at : ℕ) (found : Bool) : Type 0 where
  pub place : at ≤ length vars
  pub thins : Thins test start vars
  pub behind : (v : ℕ) → is_among (drop at vars) v ≡ true → is_among met v ≡ true
  pub within : IsWithin met set
  pub few : length set ≤ 256
  pub met_grows : Grows (λ v. test v && is_among start v) met0 met
  pub set_grows : Grows (λ v. test v && is_among start v) set0 set
  pub none : found ≡ false → (met ≡ met0) × (set ≡ set0)

pub meeting-start : (test : ℕ → Bool) (vars met set : List ℕ) (at : ℕ) → at ≡ length vars → IsWithin met set → length set ≤ 256 → IsMeeting test vars vars met met set set at false
meeting-start test vars met set at e within few = record {
  place = omega (arith, e);
  thins = (λ v i. i, λ v t i. i);
  behind = λ v i. absurd (true≢false (sym i ∙ ap (λ z. is_among z v) (drop-end vars at e)));
  within = within;
  few = few;
  met_grows = grows-self (λ v. test v && is_among vars v) met;
  set_grows = grows-self (λ v. test v && is_among vars v) set;
  none = λ n. (refl, refl);
}
  where
    drop-end : (xs : List ℕ) (n : ℕ) → n ≡ length xs → drop n xs ≡ []
    drop-end xs n e = subst (λ m. drop m xs ≡ []) (sym e) (drop_all (length xs) xs (omega arith))

-- a variable that is not later has left
pub meeting-drop : (test : ℕ → Bool) (start vars new met0 met set0 set : List ℕ) (at next v : ℕ) (found : Bool) → IsMeeting test start vars met0 met set0 set at found → at ≡ next + 1 → test v ≡ false
    → ((w : ℕ) → is_among vars w ≡ (is_among new w || (v == w))) → ((w : ℕ) → is_among (drop next new) w ≡ is_among (drop (next + 1) vars) w) → length new + 1 ≡ length vars → IsMeeting test start new met0 met set0 set next found
meeting-drop test start vars new met0 met set0 set at next v found h e off among behind long = record {
  place = let p = h.place in omega (arith, p, e, long);
  thins = (
    λ w i. h.thins.0 w (among w ∙ or_left (is_among new w) (v == w) i),
    λ w t i. elim (or_cases (is_among new w) (v == w) (sym (among w) ∙ h.thins.1 w t i)) [
      | inl s ↦ s
      | inr s ↦ absurd (true≢false (sym t ∙ ap test (sym (eqb-true v w s)) ∙ off))
    ],
  );
  behind = λ w i. h.behind w (ap (λ n. is_among (drop n vars) w) e ∙ sym (behind w) ∙ i);
  within = h.within;
  few = h.few;
  met_grows = h.met_grows;
  set_grows = h.set_grows;
  none = h.none;
}

cut-at : (xs : List ℕ) (n : ℕ) → n < length xs → drop n xs ≡ get_or xs n 0 ∷ drop (n + 1) xs
cut-at xs n h = drop_more xs n 0 h

among-at : (xs : List ℕ) (n : ℕ) → n < length xs → is_among xs (get_or xs n 0) ≡ true
among-at [] n h = absurd (omega (arith, h))
among-at (x ∷ xs) zero h = or_left (x == x) (is_among xs x) (eq-eqb x x refl)
among-at (x ∷ xs) (suc n) h = or_right (x == get_or xs n 0) (is_among xs (get_or xs n 0)) (among-at xs n (omega (arith, h)))

-- a later one has joined
pub meeting-join : (test : ℕ → Bool) (start vars met0 met new-met set0 set new-set : List ℕ) (at next v : ℕ) (found new now : Bool) → IsMeeting test start vars met0 met set0 set at found → at ≡ next + 1 → v ≡ get_or vars next 0 → test v ≡ true
    → IsJoin met new-met set new-set v new → now ≡ (new || found) → length new-set ≤ 256 → IsMeeting test start vars met0 new-met set0 new-set next now
meeting-join test start vars met0 met new-met set0 set new-set at next v found new now h e is on j now-is few = record {
  place = let p = h.place in omega (arith, p, e);
  thins = h.thins;
  behind = λ w i. behind w (or_cases (get_or vars next 0 == w) (is_among (drop (next + 1) vars) w) (sym (ap (λ z. is_among z w) (cut-at vars next inside)) ∙ i));
  within = join-within met new-met set new-set v new h.within j;
  few = few;
  met_grows = grows-then both both met0 met new-met (λ w q. q) h.met_grows (join-met both met new-met set new-set v new mine j);
  set_grows = grows-then both both set0 set new-set (λ w q. q) h.set_grows (join-set both met new-met set new-set v new mine j);
  none = λ n.
      let parts = or_parts new found (sym now-is ∙ n) in
      let same = join-none met new-met set new-set v new parts.0 j in
      let old = h.none parts.1 in
      (same.0 ∙ old.0, same.1 ∙ old.1);
}
  where
    both : ℕ → Bool
    both w = test w && is_among start w

    inside : next < length vars
    inside = let p = h.place in omega (arith, p, e)

    mine : both v ≡ true
    mine = and_from (test v) (is_among start v) on (h.thins.0 v (ap (is_among vars) is ∙ among-at vars next inside))

    behind : (w : ℕ) → ((get_or vars next 0 == w) ≡ true) ⊎ (is_among (drop (next + 1) vars) w ≡ true) → is_among new-met w ≡ true
    behind w (inl s) = ap (is_among new-met) (sym (is ∙ eqb-true (get_or vars next 0) w s)) ∙ join-in met new-met set new-set v new j
    behind w (inr s) = grows-in both met new-met w (join-met both met new-met set new-set v new mine j) (h.behind w (ap (λ n. is_among (drop n vars) w) e ∙ s))

-- the set is full: then something has joined
pub meeting-full : (test : ℕ → Bool) (start vars met0 met new-met set0 set new-set : List ℕ) (at next v : ℕ) (found new : Bool) → IsMeeting test start vars met0 met set0 set at found → at ≡ next + 1 → v ≡ get_or vars next 0 → test v ≡ true
    → IsJoin met new-met set new-set v new → IsWithin new-met new-set × Grows (λ w. test w && is_among start w) met0 new-met × Grows (λ w. test w && is_among start w) set0 new-set
meeting-full test start vars met0 met new-met set0 set new-set at next v found new h e is on j = (
  join-within met new-met set new-set v new h.within j,
  grows-then both both met0 met new-met (λ w q. q) h.met_grows (join-met both met new-met set new-set v new mine j),
  grows-then both both set0 set new-set (λ w q. q) h.set_grows (join-set both met new-met set new-set v new mine j),
)
  where
    both : ℕ → Bool
    both w = test w && is_among start w

    mine : both v ≡ true
    mine = and_from (test v) (is_among start v) on (h.thins.0 v (ap (is_among vars) is ∙ among-at vars next (let p = h.place in omega (arith, p, e))))

-- at the end all were met
pub meeting-all : (test : ℕ → Bool) (start vars met0 met set0 set : List ℕ) (at : ℕ) (found : Bool) → IsMeeting test start vars met0 met set0 set at found → at ≡ 0 → (v : ℕ) → (test v && is_among start v) ≡ true → is_among met v ≡ true
meeting-all test start vars met0 met set0 set at found h e v q =
    let both = and_parts (test v) (is_among start v) q in
    h.behind v (ap (λ n. is_among (drop n vars) v) e ∙ h.thins.1 v both.0 both.1)

pub meeting-none : (test : ℕ → Bool) (start vars met0 met set0 set : List ℕ) (at : ℕ) (found : Bool) → IsMeeting test start vars met0 met set0 set at found → at ≡ 0 → found ≡ false
    → (met ≡ met0) × ((v : ℕ) → (test v && is_among start v) ≡ true → is_among met0 v ≡ true)
meeting-none test start vars met0 met set0 set at found h e n =
    let same = (h.none n).0 in
    (same, λ v q. ap (λ z. is_among z v) (sym same) ∙ meeting-all test start vars met0 met set0 set at found h e v q)

abbrev pub set_of : List (List ℕ) → ℕ → List ℕ → List (List ℕ)
set_of lists k new = set lists k new

-- what is near, in lists that change
pub any-in : (f : ℕ → Bool) (xs : List ℕ) (k : ℕ) → is_among xs k ≡ true → f k ≡ true → list_any f xs ≡ true
any-in f xs k i e = let q = any-with (λ v. (g : ℕ → Bool) → g v ≡ true → list_any g xs ≡ true) (λ v. v == k) xs (each-any xs) i in q.2 f (ap f (eqb-true q.0 k q.1) ∙ e)

pub near-list : (members : List (List ℕ)) (xs : List ℕ) (v : ℕ) → is_near members xs v ≡ true → (k : ℕ) × (is_among (kept members k) v ≡ true) × (is_among xs k ≡ true)
near-list members xs v e = any-with (λ k. is_among xs k ≡ true) (λ k. is_among (kept members k) v) xs (own-among xs) e

pub near-of : (members : List (List ℕ)) (xs : List ℕ) (k v : ℕ) → is_among xs k ≡ true → is_among (kept members k) v ≡ true → is_near members xs v ≡ true
near-of members xs k v i e = any-in (λ k. is_among (kept members k) v) xs k i e

pub near-more : (members : List (List ℕ)) (xs ys : List ℕ) (v : ℕ) → IsWithin xs ys → is_near members xs v ≡ true → is_near members ys v ≡ true
near-more members xs ys v h e = let q = near-list members xs v e in near-of members ys q.0 v (h q.0 q.2) q.1

pub near-less : (test : ℕ → Bool) (old new : List (List ℕ)) (xs : List ℕ) (v : ℕ) → AllThin test old new → is_near new xs v ≡ true → is_near old xs v ≡ true
near-less test old new xs v h e = let q = near-list new xs v e in near-of old xs q.0 v q.2 ((h.thins q.0).0 v q.1)

pub near-stays : (test : ℕ → Bool) (old new : List (List ℕ)) (xs : List ℕ) (v : ℕ) → AllThin test old new → test v ≡ true → is_near old xs v ≡ true → is_near new xs v ≡ true
near-stays test old new xs v h t e = let q = near-list old xs v e in near-of new xs q.0 v q.2 ((h.thins q.0).1 v t q.1)

thin-self : (test : ℕ → Bool) (xs : List ℕ) → Thins test xs xs
thin-self test xs = (λ v i. i, λ v t i. i)

pub all-thin-self : (test : ℕ → Bool) (lists : List (List ℕ)) → AllThin test lists lists
all-thin-self test lists = record { long = refl; thins = λ k. thin-self test (kept lists k) }

pub all-thin-then : (test : ℕ → Bool) (a b c : List (List ℕ)) → AllThin test a b → AllThin test b c → AllThin test a c
all-thin-then test a b c h k = record {
  long = k.long ∙ h.long;
  thins = λ n. (λ v i. (h.thins n).0 v ((k.thins n).0 v i), λ v t i. (k.thins n).1 v t ((h.thins n).1 v t i));
}

all-thin-set : (test : ℕ → Bool) (lists : List (List ℕ)) (k : ℕ) (new : List ℕ) → k < length lists → Thins test (kept lists k) new → AllThin test lists (set lists k new)
all-thin-set test lists k new low h = record {
  long = length-set lists k new;
  thins = λ j. at j (k == j) refl;
}
  where
    at : (j : ℕ) (t : Bool) → (k == j) ≡ t → Thins test (kept lists j) (kept (set lists k new) j)
    at j true e = subst (λ i. Thins test (kept lists i) (kept (set lists k new) i)) (eqb-true k j e) (subst (Thins test (kept lists k)) (sym (get_or-set_same lists k new [] low)) h)
    at j false e = subst (Thins test (kept lists j)) (sym (get_or-set_other lists k j new [] (λ s. eqb-false k j e (sym s)))) (thin-self test (kept lists j))

-- one clause was visited
pub record IsVisit (test : ℕ → Bool) (vars new-vars met new-met set new-set : List ℕ) : Type 0 where
  pub thins : Thins test vars new-vars
  pub within : IsWithin new-met new-set
  pub met_grows : Grows (λ v. test v && is_among vars v) met new-met
  pub set_grows : Grows (λ v. test v && is_among vars v) set new-set
  pub all : HasAll (λ v. test v && is_among vars v) new-set

-- a walk: behind a place the clauses were visited, and those that gave nothing new have left
pub record IsWalking (test : ℕ → Bool) (start members : List (List ℕ)) (ids0 ids met set0 set : List ℕ) (at : ℕ) : Type 0 where
  pub place : at ≤ length ids
  pub shrunk : AllThin test start members
  pub less : IsWithin ids ids0
  pub stays : (v : ℕ) → test v ≡ true → is_near start ids0 v ≡ true → is_near members ids v ≡ true
  pub met_near : (v : ℕ) → is_among met v ≡ true → (test v ≡ true) × (is_near members (drop at ids) v ≡ true)
  pub done : (v : ℕ) → test v ≡ true → is_near members (drop at ids) v ≡ true → is_among set v ≡ true
  pub within : IsWithin met set
  pub few : length set ≤ 256
  pub grows : Grows (λ v. test v && is_near start ids0 v) set0 set

drop-none : (xs : List ℕ) (n : ℕ) → n ≡ length xs → drop n xs ≡ []
drop-none xs n e = subst (λ m. drop m xs ≡ []) (sym e) (drop_all (length xs) xs (omega arith))

pub walking-start : (test : ℕ → Bool) (start : List (List ℕ)) (ids set : List ℕ) (at : ℕ) → at ≡ length ids → length set ≤ 256 → IsWalking test start start ids ids [] set set at
walking-start test start ids set at e few = record {
  place = omega (arith, e);
  shrunk = all-thin-self test start;
  less = λ k i. i;
  stays = λ v t n. n;
  met_near = λ v i. absurd (true≢false (sym i));
  done = λ v t n. absurd (true≢false (sym n ∙ ap (λ z. is_near start z v) (drop-none ids at e)));
  within = λ v i. absurd (true≢false (sym i));
  few = few;
  grows = grows-self (λ v. test v && is_near start ids v) set;
}

-- the clause at the next place
next-in : (ids : List ℕ) (at next : ℕ) → at ≤ length ids → at ≡ next + 1 → is_among ids (get_or ids next 0) ≡ true
next-in ids at next p e = among-at ids next (omega (arith, p, e))

pub next-placed : (test : ℕ → Bool) (start members : List (List ℕ)) (ids0 ids met set0 set : List ℕ) (at next : ℕ) → IsWalking test start members ids0 ids met set0 set at → at ≡ next + 1 → AllByRecursion (λ k. k < length start) ids0 → get_or ids next 0 < length members
next-placed test start members ids0 ids met set0 set at next w e placed =
    let low = all-among (λ k. k < length start) ids0 (get_or ids next 0) placed (w.less (get_or ids next 0) (next-in ids at next w.place e)) in
    let long = w.shrunk.long in
    omega (arith, low, long)

behind-next : (members : List (List ℕ)) (ids : List ℕ) (at next v : ℕ) → at ≤ length ids → at ≡ next + 1 → is_near members (drop next ids) v ≡ true → (is_among (kept members (get_or ids next 0)) v ≡ true) ⊎ (is_near members (drop at ids) v ≡ true)
behind-next members ids at next v p e n =
    elim (or_cases (is_among (kept members (get_or ids next 0)) v) (is_near members (drop (next + 1) ids) v) (sym (ap (λ z. is_near members z v) (cut-at ids next (omega (arith, p, e)))) ∙ n)) [
      | inl s ↦ inl s
      | inr s ↦ inr (ap (λ m. is_near members (drop m ids) v) e ∙ s)
    ]

next-behind : (members : List (List ℕ)) (ids : List ℕ) (at next v : ℕ) → at ≤ length ids → at ≡ next + 1 → (is_among (kept members (get_or ids next 0)) v ≡ true) ⊎ (is_near members (drop at ids) v ≡ true) → is_near members (drop next ids) v ≡ true
next-behind members ids at next v p e (inl s) = ap (λ z. is_near members z v) (cut-at ids next (omega (arith, p, e))) ∙ or_left (is_among (kept members (get_or ids next 0)) v) (is_near members (drop (next + 1) ids) v) s
next-behind members ids at next v p e (inr s) =
    ap (λ z. is_near members z v) (cut-at ids next (omega (arith, p, e))) ∙ or_right (is_among (kept members (get_or ids next 0)) v) (is_near members (drop (next + 1) ids) v) (ap (λ m. is_near members (drop m ids) v) (sym e) ∙ s)

-- what a visit does to the tables, whether it ends well or not
pub visit-members : (test : ℕ → Bool) (start members : List (List ℕ)) (ids0 ids met set0 set : List ℕ) (at next k : ℕ) (vars new-vars : List ℕ) → IsWalking test start members ids0 ids met set0 set at → at ≡ next + 1 → AllByRecursion (λ k. k < length start) ids0
    → k ≡ get_or ids next 0 → vars ≡ kept members k → Thins test vars new-vars → AllThin test members (set_of members k new-vars)
visit-members test start members ids0 ids met set0 set at next k vars new-vars w e placed is was thins =
    all-thin-set test members k new-vars (subst (λ j. j < length members) (sym is) (next-placed test start members ids0 ids met set0 set at next w e placed)) (subst (λ z. Thins test z new-vars) was thins)

pub visit-stays : (test : ℕ → Bool) (start members new : List (List ℕ)) (ids0 ids met set0 set : List ℕ) (at : ℕ) → IsWalking test start members ids0 ids met set0 set at → AllThin test members new
    → AllThin test start new × ((v : ℕ) → test v ≡ true → is_near start ids0 v ≡ true → is_near new ids v ≡ true)
visit-stays test start members new ids0 ids met set0 set at w thin = (
  all-thin-then test start members new w.shrunk thin,
  λ v t n. near-stays test members new ids v thin t (w.stays v t n),
)

-- the set has grown by what is near
pub visit-grows : (test : ℕ → Bool) (start members : List (List ℕ)) (ids0 ids met set0 set : List ℕ) (at next k : ℕ) (vars new-vars new-met new-set : List ℕ) → IsWalking test start members ids0 ids met set0 set at → at ≡ next + 1 → k ≡ get_or ids next 0 → vars ≡ kept members k
    → IsVisit test vars new-vars met new-met set new-set → Grows (λ v. test v && is_near start ids0 v) set0 new-set
visit-grows test start members ids0 ids met set0 set at next k vars new-vars new-met new-set w e is was visit =
    grows-then (λ v. test v && is_near start ids0 v) (λ v. test v && is_among vars v) set0 set new-set imp w.grows visit.set_grows
  where
    imp : (v : ℕ) → (test v && is_among vars v) ≡ true → (test v && is_near start ids0 v) ≡ true
    imp v q =
        let both = and_parts (test v) (is_among vars v) q in
        let here : is_near members ids v ≡ true = near-of members ids k v (ap (is_among ids) is ∙ next-in ids at next w.place e) (ap (λ z. is_among z v) (sym was) ∙ both.1) in
        and_from (test v) (is_near start ids0 v) both.0 (near-less test start members ids0 v w.shrunk (near-more members ids ids0 v w.less here))

pub walking-found : (test : ℕ → Bool) (start members new : List (List ℕ)) (ids0 ids met set0 set : List ℕ) (at next k : ℕ) (vars new-vars new-met new-set : List ℕ) → IsWalking test start members ids0 ids met set0 set at → at ≡ next + 1 → k ≡ get_or ids next 0 → vars ≡ kept members k
    → new ≡ set_of members k new-vars → AllThin test members new → k < length members → IsVisit test vars new-vars met new-met set new-set → length new-set ≤ 256 → IsWalking test start new ids0 ids new-met set0 new-set next
walking-found test start members new ids0 ids met set0 set at next k vars new-vars new-met new-set w e is was made thin low visit few = record {
  place = let p = w.place in omega (arith, p, e);
  shrunk = (visit-stays test start members new ids0 ids met set0 set at w thin).0;
  less = w.less;
  stays = (visit-stays test start members new ids0 ids met set0 set at w thin).1;
  met_near = λ v i. met-near v (or_cases (is_among met v) (test v && is_among vars v) (all-among (λ u. (is_among met u || (test u && is_among vars u)) ≡ true) new-met v visit.met_grows.from i));
  done = λ v t n. done v t (behind-next new ids at next v w.place e n);
  within = visit.within;
  few = few;
  grows = visit-grows test start members ids0 ids met set0 set at next k vars new-vars new-met new-set w e is was visit;
}
  where
    row-is : kept new (get_or ids next 0) ≡ new-vars
    row-is = ap (kept new) (sym is) ∙ ap (λ z. kept z k) made ∙ get_or-set_same members k new-vars [] low

    met-near : (v : ℕ) → (is_among met v ≡ true) ⊎ ((test v && is_among vars v) ≡ true) → (test v ≡ true) × (is_near new (drop next ids) v ≡ true)
    met-near v (inl s) = let q = w.met_near v s in (q.0, next-behind new ids at next v w.place e (inr (near-stays test members new (drop at ids) v thin q.0 q.1)))
    met-near v (inr s) =
        let q = and_parts (test v) (is_among vars v) s in
        (q.0, next-behind new ids at next v w.place e (inl (ap (λ z. is_among z v) row-is ∙ visit.thins.1 v q.0 q.1)))

    done : (v : ℕ) → test v ≡ true → (is_among (kept new (get_or ids next 0)) v ≡ true) ⊎ (is_near new (drop at ids) v ≡ true) → is_among new-set v ≡ true
    done v t (inl s) = visit.all few v (and_from (test v) (is_among vars v) t (visit.thins.0 v (ap (λ z. is_among z v) (sym row-is) ∙ s)))
    done v t (inr s) = grows-in (λ u. test u && is_among vars u) set new-set v visit.set_grows (w.done v t (near-less test members new (drop at ids) v thin s))

-- the clause gave nothing new, and leaves
pub walking-drop : (test : ℕ → Bool) (start members new : List (List ℕ)) (ids0 ids left met set0 set : List ℕ) (at next k : ℕ) (vars new-vars new-met new-set : List ℕ) → IsWalking test start members ids0 ids met set0 set at → at ≡ next + 1 → k ≡ get_or ids next 0 → vars ≡ kept members k
    → new ≡ set_of members k new-vars → AllThin test members new → k < length members → IsVisit test vars new-vars met new-met set new-set → length new-set ≤ 256
    → (new-met ≡ met) × ((v : ℕ) → (test v && is_among vars v) ≡ true → is_among met v ≡ true)
    → ((w : ℕ) → is_among ids w ≡ (is_among left w || (get_or ids next 0 == w))) → ((w : ℕ) → is_among (drop next left) w ≡ is_among (drop (next + 1) ids) w) → length left + 1 ≡ length ids
    → IsWalking test start new ids0 left new-met set0 new-set next
walking-drop test start members new ids0 ids left met set0 set at next k vars new-vars new-met new-set w e is was made thin low visit few none among behind long = record {
  place = let p = w.place in omega (arith, p, e, long);
  shrunk = (visit-stays test start members new ids0 ids met set0 set at w thin).0;
  less = λ j i. w.less j (among j ∙ or_left (is_among left j) (get_or ids next 0 == j) i);
  stays = λ v t n. stays v t (near-list new ids v ((visit-stays test start members new ids0 ids met set0 set at w thin).1 v t n));
  met_near = λ v i. let q = w.met_near v (ap (λ z. is_among z v) (sym none.0) ∙ i) in (q.0, behind-left v q.0 q.1);
  done = λ v t n. grows-in (λ u. test u && is_among vars u) set new-set v visit.set_grows (w.done v t (near-less test members new (drop at ids) v thin (ap (λ m. is_near new (drop m ids) v) e ∙ near-more new (drop next left) (drop (next + 1) ids) v (λ j i. sym (behind j) ∙ i) n)));
  within = visit.within;
  few = few;
  grows = visit-grows test start members ids0 ids met set0 set at next k vars new-vars new-met new-set w e is was visit;
}
  where
    row-is : kept new (get_or ids next 0) ≡ new-vars
    row-is = ap (kept new) (sym is) ∙ ap (λ z. kept z k) made ∙ get_or-set_same members k new-vars [] low

    behind-left : (v : ℕ) → test v ≡ true → is_near members (drop at ids) v ≡ true → is_near new (drop next left) v ≡ true
    behind-left v t n = near-more new (drop (next + 1) ids) (drop next left) v (λ j i. behind j ∙ i) (ap (λ m. is_near new (drop m ids) v) (sym e) ∙ near-stays test members new (drop at ids) v thin t n)

    drop-within : (n : ℕ) (xs : List ℕ) → IsWithin (drop n xs) xs
    drop-within zero xs j i = i
    drop-within (suc n) [] j i = i
    drop-within (suc n) (x ∷ xs) j i = or_right (x == j) (is_among xs j) (drop-within n xs j i)

    stays : (v : ℕ) → test v ≡ true → (j : ℕ) × (is_among (kept new j) v ≡ true) × (is_among ids j ≡ true) → is_near new left v ≡ true
    stays v t q = elim (or_cases (is_among left q.0) (get_or ids next 0 == q.0) (sym (among q.0) ∙ q.2)) [
      | inl s ↦ near-of new left q.0 v s q.1
      | inr s ↦ (
          let there : is_among new-vars v ≡ true = ap (λ z. is_among z v) (sym row-is) ∙ ap (λ j. is_among (kept new j) v) (eqb-true (get_or ids next 0) q.0 s) ∙ q.1 in
          let old = w.met_near v (none.1 v (and_from (test v) (is_among vars v) t (visit.thins.0 v there))) in
          near-more new (drop next left) left v (drop-within next left) (behind-left v t old.1)
          )
    ]

-- at the end
pub walking-all : (test : ℕ → Bool) (start members : List (List ℕ)) (ids0 ids met set0 set : List ℕ) (at : ℕ) → IsWalking test start members ids0 ids met set0 set at → at ≡ 0 → (v : ℕ) → (test v && is_near start ids0 v) ≡ true → is_among set v ≡ true
walking-all test start members ids0 ids met set0 set at w e v q =
    let both = and_parts (test v) (is_near start ids0 v) q in
    w.done v both.0 (ap (λ n. is_near members (drop n ids) v) e ∙ w.stays v both.0 both.1)

pub read-is : (lists : List (List ℕ)) (k : ℕ) (read : List ℕ) → k < length lists → read ≡ get_or lists k read → read ≡ kept lists k
read-is lists k read low e = e ∙ get_or_default lists k read [] low

pub place-low : (test : ℕ → Bool) (start members : List (List ℕ)) (ids0 ids met set0 set : List ℕ) (at next k : ℕ) → IsWalking test start members ids0 ids met set0 set at → at ≡ next + 1 → AllByRecursion (λ k. k < length start) ids0 → k ≡ get_or ids next 0 → k < length members
place-low test start members ids0 ids met set0 set at next k w e placed is = subst (λ j. j < length members) (sym is) (next-placed test start members ids0 ids met set0 set at next w e placed)
