-- Functions that ignore a variable, and what a run makes of them.
use Rattle.std.proofs.Common.{ℕ, ◌≡◌, ◌==◌, Bool, true, false, ◌&&◌, ◌||◌, cond, List, [], ◌∷◌, ◌++◌, refl, sym, ap, ap₂, subst, ◌∙◌, inl, inr, true≢false}
use Rattle.std.specs.List.{AllByRecursion}
use Rattle.std.proofs.lemmas.Bool.{cond-true, cond-false, eq-eqb, eqb-true, or_left, or_right}
use Rattle.kn_logic.specs.Groups.{is_among}
use Rattle.kn_logic.proofs.Public.{All-append}
use Rattle.kn_diagram.specs.Diagrams.{with_value}
use Rattle.kn_diagram.specs.Wide.{Ignores}
use Rattle.kn_quant.specs.Quantified.{some_value}
use Rattle.kn_quant.specs.Runs.{Function, Step, both, whole, Splits, Empties, Runs, AgreeBut}
use Rattle.kn_quant.specs.Rebuilt.{rebuilt}
use Rattle.kn_rebuild.specs.Rebuilding.{IsByBucket}

pub same-value : (f : Function) (v w : ℕ → Bool) → ((x : ℕ) → v x ≡ w x) → f v ≡ f w
same-value f v w h = λ i. f (λ x. h x i)

-- a variable set in two assignments that are the same at all others
set-same : (y : ℕ) (b : Bool) (v w : ℕ → Bool) (x : ℕ) → ((x == y) ≡ false → v x ≡ w x) → (t : Bool) → (x == y) ≡ t → with_value v y b x ≡ with_value w y b x
set-same y b v w x h true e = cond-true (x == y) b (v x) e ∙ sym (cond-true (x == y) b (w x) e)
set-same y b v w x h false e = cond-false (x == y) b (v x) e ∙ h e ∙ sym (cond-false (x == y) b (w x) e)

-- the value of a function that ignores a variable hangs on the others
pub ignores-set : (f : Function) (y : ℕ) (v w : ℕ → Bool) → Ignores f y → ((x : ℕ) → (x == y) ≡ false → v x ≡ w x) → f v ≡ f w
ignores-set f y v w ignores h =
    sym (ignores v true) ∙ same-value f (with_value v y true) (with_value w y true) (λ x. set-same y true v w x (h x) (x == y) refl) ∙ ignores w true

-- ---- what is made of functions that ignore a variable ignores it

some-ignores : (f : Function) (z y : ℕ) → Ignores f y → Ignores (some_value z f) y
some-ignores f z y ignores v b = ap₂ (λ s t. s || t) (at true) (at false)
  where
    at : (c : Bool) → f (with_value (with_value v y b) z c) ≡ f (with_value v z c)
    at c = ignores-set f y (with_value (with_value v y b) z c) (with_value v z c) ignores (λ x e. ap (λ q. cond (x == z) c q) (cond-false (x == y) b (v x) e))

set-twice : (v : ℕ → Bool) (z x : ℕ) (b c : Bool) → with_value (with_value v z b) z c x ≡ with_value v z c x
set-twice v z x b c = set-same z c (with_value v z b) v x (λ e. cond-false (x == z) b (v x) e) (x == z) refl

some-own : (f : Function) (z : ℕ) → Ignores (some_value z f) z
some-own f z v b = ap₂ (λ s t. s || t) (at true) (at false)
  where
    at : (c : Bool) → f (with_value (with_value v z b) z c) ≡ f (with_value v z c)
    at c = same-value f (with_value (with_value v z b) z c) (with_value v z c) (λ x. set-twice v z x b c)

whole-ignores : (y : ℕ) (p : Function) (ps : List Function) → Ignores p y → AllByRecursion (λ q. Ignores q y) ps → Ignores (whole p ps) y
whole-ignores y p [] h k = h
whole-ignores y p (q ∷ qs) h k = whole-ignores y (both p q) qs (λ v b. ap₂ (λ s t. s && t) (h v b) (k.0 v b)) k.1

split-ignores : (y z : ℕ) (ps bucket rest : List Function) → Splits z ps bucket rest → AllByRecursion (λ p. Ignores p y) ps
    → AllByRecursion (λ p. Ignores p y) bucket × AllByRecursion (λ p. Ignores p y) rest
split-ignores y z [] bucket rest s h = (subst (AllByRecursion (λ p. Ignores p y)) (sym s.0) tt, subst (AllByRecursion (λ p. Ignores p y)) (sym s.1) tt)
split-ignores y z (p ∷ ps) bucket rest (inl (more, e, own, s)) h =
    let r = split-ignores y z ps more rest s h.1 in (subst (AllByRecursion (λ q. Ignores q y)) (sym e) (h.0, r.0), r.1)
split-ignores y z (p ∷ ps) bucket rest (inr (more, e, own, s)) h =
    let r = split-ignores y z ps bucket more s h.1 in (r.0, subst (AllByRecursion (λ q. Ignores q y)) (sym e) (h.0, r.1))

own-split-ignores : (z : ℕ) (ps bucket rest : List Function) → Splits z ps bucket rest → AllByRecursion (λ p. Ignores p z) rest
own-split-ignores z [] bucket rest s = subst (AllByRecursion (λ p. Ignores p z)) (sym s.1) tt
own-split-ignores z (p ∷ ps) bucket rest (inl (more, e, own, s)) = own-split-ignores z ps more rest s
own-split-ignores z (p ∷ ps) bucket rest (inr (more, e, own, s)) = subst (AllByRecursion (λ q. Ignores q z)) (sym e) (own, own-split-ignores z ps bucket more s)

-- the pieces that the turn of a variable leaves ignore what all pieces ignored
turn-ignores : (y z : ℕ) (ps bucket rest next : List Function) (here : List Step) (own : List (ℕ × Function)) → Splits z ps bucket rest → Empties z ps bucket rest next here own
    → AllByRecursion (λ p. Ignores p y) ps → AllByRecursion (λ p. Ignores p y) next × AllByRecursion (λ c. Ignores c.1 y) own
turn-ignores y z ps [] rest next here own s e h = (subst (AllByRecursion (λ p. Ignores p y)) (sym e.0) h, subst (AllByRecursion (λ c. Ignores c.1 y)) (sym e.2) tt)
turn-ignores y z ps (b ∷ bs) rest next here own s e h =
    let parts = split-ignores y z ps (b ∷ bs) rest s h in
    let all = whole-ignores y b bs parts.0.0 parts.0.1 in (
      subst (AllByRecursion (λ p. Ignores p y)) (sym e.0) (All-append (λ p. Ignores p y) rest (some_value z (whole b bs) ∷ []) parts.1 (some-ignores (whole b bs) z y all, tt)),
      subst (AllByRecursion (λ c. Ignores c.1 y)) (sym e.2) (all, tt),
    )

-- and the variable itself
own-turn-ignores : (z : ℕ) (ps bucket rest next : List Function) (here : List Step) (own : List (ℕ × Function)) → Splits z ps bucket rest → Empties z ps bucket rest next here own
    → AllByRecursion (λ p. Ignores p z) next
own-turn-ignores z ps [] rest next here own s e = subst (AllByRecursion (λ p. Ignores p z)) (sym e.0) (none z ps rest s)
  where
    none : (z : ℕ) (ps rest : List Function) → Splits z ps [] rest → AllByRecursion (λ p. Ignores p z) ps
    none z [] rest s = tt
    none z (p ∷ ps) rest (inl (more, e, own, s)) = absurd cc
    none z (p ∷ ps) rest (inr (more, e, own, s)) = (own, none z ps more s)
own-turn-ignores z ps (b ∷ bs) rest next here own s e =
    subst (AllByRecursion (λ p. Ignores p z)) (sym e.0)
    (All-append (λ p. Ignores p z) rest (some_value z (whole b bs) ∷ []) (own-split-ignores z ps (b ∷ bs) rest s) (some-own (whole b bs) z, tt))

-- the buckets of a run ignore what all pieces ignored
pub buckets-ignore : (y : ℕ) (ys : List ℕ) (ps : List Function) (s : List Step) (b : List (ℕ × Function)) (f : Function) → Runs ys ps s b f
    → AllByRecursion (λ p. Ignores p y) ps → AllByRecursion (λ c. Ignores c.1 y) b
buckets-ignore y [] ps s b f r h = subst (AllByRecursion (λ c. Ignores c.1 y)) (sym r.1) tt
buckets-ignore y (z ∷ ys) ps s b f (n, here, m, o, l, t, e, g, r) h =
    let turn = turn-ignores y z ps t.bucket t.rest n here o t.split t.emptied h in
    subst (AllByRecursion (λ c. Ignores c.1 y)) (sym g) (All-append (λ c. Ignores c.1 y) o l turn.1 (buckets-ignore y ys n m l f r turn.0))

-- ---- the values of a run's buckets are by the rule

abbrev pub AreApart : List ℕ → Type 0
AreApart [] = Unit {0}
AreApart (y ∷ ys) = (is_among ys y ≡ false) × AreApart ys

among-own : (z : ℕ) (ps bucket rest next : List Function) (here : List Step) (own : List (ℕ × Function)) (ys : List ℕ) → Empties z ps bucket rest next here own
    → AllByRecursion (λ c. is_among (z ∷ ys) c.0 ≡ true) own
among-own z ps [] rest next here own ys e = subst (AllByRecursion (λ c. is_among (z ∷ ys) c.0 ≡ true)) (sym e.2) tt
among-own z ps (b ∷ bs) rest next here own ys e =
    subst (AllByRecursion (λ c. is_among (z ∷ ys) c.0 ≡ true)) (sym e.2) (or_left (z == z) (is_among ys z) (eq-eqb z z refl), tt)

among-more : (z : ℕ) (ys : List ℕ) (b : List (ℕ × Function)) → AllByRecursion (λ c. is_among ys c.0 ≡ true) b → AllByRecursion (λ c. is_among (z ∷ ys) c.0 ≡ true) b
among-more z ys [] h = tt
among-more z ys (c ∷ b) h = (or_right (z == c.0) (is_among ys c.0) h.0, among-more z ys b h.1)

-- the variables of the buckets are those of the run
pub buckets-among : (ys : List ℕ) (ps : List Function) (s : List Step) (b : List (ℕ × Function)) (f : Function) → Runs ys ps s b f → AllByRecursion (λ c. is_among ys c.0 ≡ true) b
buckets-among [] ps s b f r = subst (AllByRecursion (λ c. is_among [] c.0 ≡ true)) (sym r.1) tt
buckets-among (z ∷ ys) ps s b f (n, here, m, o, l, t, e, g, r) =
    subst (AllByRecursion (λ c. is_among (z ∷ ys) c.0 ≡ true)) (sym g)
    (All-append (λ c. is_among (z ∷ ys) c.0 ≡ true) o l (among-own z ps t.bucket t.rest n here o ys t.emptied) (among-more z ys l (buckets-among ys n m l f r)))

-- a later bucket's value stays by the rule when an earlier variable gets its value
other-variable : (z : ℕ) (ys : List ℕ) (x : ℕ) → is_among ys z ≡ false → is_among ys x ≡ true → (t : Bool) → (x == z) ≡ t → (x == z) ≡ false
other-variable z ys x none h false e = e
other-variable z ys x none h true e = absurd (true≢false (sym h ∙ ap (is_among ys) (eqb-true x z e) ∙ none))

pub later-stay : (z : ℕ) (ys : List ℕ) (c : Bool) (u : ℕ → Bool) (later : List (ℕ × Function)) → is_among ys z ≡ false
    → AllByRecursion (λ b. is_among ys b.0 ≡ true) later → AllByRecursion (λ b. Ignores b.1 z) later → AllByRecursion (IsByBucket u) later → AllByRecursion (IsByBucket (with_value u z c)) later
later-stay z ys c u [] none h i k = tt
later-stay z ys c u (b ∷ later) none h i k =
    let apart = other-variable z ys b.0 none h.0 (b.0 == z) refl in (
      cond-false (b.0 == z) c (u b.0) apart ∙ k.0
          ∙ sym (ignores-set b.1 z (with_value (with_value u z c) b.0 true) (with_value u b.0 true) i.0 (λ x e. ap (λ q. cond (x == b.0) true q) (cond-false (x == z) c (u x) e))),
      later-stay z ys c u later none h.1 i.1 k.1,
    )

turn-by : (z : ℕ) (ys : List ℕ) (ps bucket rest next : List Function) (here : List Step) (own later : List (ℕ × Function)) (v : ℕ → Bool)
    → Empties z ps bucket rest next here own → is_among ys z ≡ false → AllByRecursion (λ b. is_among ys b.0 ≡ true) later → AllByRecursion (λ b. Ignores b.1 z) later
    → AllByRecursion (IsByBucket (rebuilt later v)) later → AllByRecursion (IsByBucket (rebuilt (own ++ later) v)) (own ++ later)
turn-by z ys ps [] rest next here own later v e none h i k = subst (λ o. AllByRecursion (IsByBucket (rebuilt (o ++ later) v)) (o ++ later)) (sym e.2) k
turn-by z ys ps (b ∷ bs) rest next here own later v e none h i k =
    let u = rebuilt later v in
    let f = whole b bs in
    let c = f (with_value u z true) in
    subst (λ o. AllByRecursion (IsByBucket (rebuilt (o ++ later) v)) (o ++ later)) (sym e.2) (
      cond-true (z == z) c (u z) (eq-eqb z z refl) ∙ sym (same-value f (with_value (with_value u z c) z true) (with_value u z true) (λ x. set-twice u z x c true)),
      later-stay z ys c u later none h i k,
    )

pub rebuilt-by-rule : (ys : List ℕ) (ps : List Function) (s : List Step) (b : List (ℕ × Function)) (f : Function) (v : ℕ → Bool) → Runs ys ps s b f → AreApart ys
    → AllByRecursion (IsByBucket (rebuilt b v)) b
rebuilt-by-rule [] ps s b f v r apart = subst (λ k. AllByRecursion (IsByBucket (rebuilt k v)) k) (sym r.1) tt
rebuilt-by-rule (z ∷ ys) ps s b f v (n, here, m, o, l, t, e, g, r) apart =
    subst (λ k. AllByRecursion (IsByBucket (rebuilt k v)) k) (sym g)
    (turn-by z ys ps t.bucket t.rest n here o l v t.emptied apart.0 (buckets-among ys n m l f r)
    (buckets-ignore z ys n m l f r (own-turn-ignores z ps t.bucket t.rest n here o t.split t.emptied)) (rebuilt-by-rule ys n m l f v r apart.1))

-- ---- values that change at a list of variables

-- what ignores all variables that change keeps its value
pub unseen-change : (f : Function) (zs : List ℕ) (v w : ℕ → Bool) → AllByRecursion (λ z. Ignores f z) zs → AgreeBut zs v w → f w ≡ f v
unseen-change f [] v w h agree = same-value f w v (λ x. agree x refl)
unseen-change f (z ∷ zs) v w h agree =
    unseen-change f zs (with_value v z (w z)) w h.1 (λ x e. at x e (x == z) refl) ∙ h.0 v (w z)
  where
    other : (x : ℕ) → (x == z) ≡ false → (z == x) ≡ false
    other x e = by (z == x) refl
      where
        by : (t : Bool) → (z == x) ≡ t → (z == x) ≡ false
        by false k = k
        by true k = absurd (true≢false (sym (eq-eqb x z (sym (eqb-true z x k))) ∙ e))

    at : (x : ℕ) → is_among zs x ≡ false → (t : Bool) → (x == z) ≡ t → w x ≡ with_value v z (w z) x
    at x e true k = ap w (eqb-true x z k) ∙ sym (cond-true (x == z) (w z) (v x) k)
    at x e false k = agree x (ap₂ (λ s t. s || t) (other x k) e) ∙ sym (cond-false (x == z) (w z) (v x) k)
