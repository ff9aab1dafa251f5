-- Values that are looked up by their keys.
use Rattle.std.proofs.Common.{◌≡◌, ◌⊎◌, ◌++◌, Bool, true, false, cond, List, [], ◌∷◌, Option, Some, None, IfSome, refl, sym, ap, ◌∙◌, subst, inl, inr, true≢false}
use Rattle.std.specs.Map.{lookup}
use Rattle.std.specs.List.{AllByRecursion}
use Rattle.std.specs.Option.{is_some}
use Rattle.std.proofs.lemmas.Option.{same_Some}
use Rattle.indexmap.specs.IndexMap.{insert_entry}

-- a key that is not there goes last
unless-found : {X : Type 0} (b : Bool) (x : X) (o : Option X) → cond b (Some x) o ≡ None → (b ≡ false) × (o ≡ None)
unless-found true x o e = absurd cc
unless-found false x o e = (refl, e)

pub insert-last : {K X : Type 0} (eq : K → K → Bool) (k : K) (v : X) (es : List (K × X)) → lookup (eq k) es ≡ None → insert_entry eq es k v ≡ es ++ (k, v) ∷ []
insert-last eq k v [] e = refl
insert-last {K} {X} eq k v (x ∷ es) e =
    let (other, rest) = unless-found (eq k x.0) x.1 (lookup (eq k) es) e in
    ap (λ (b : Bool). cond b ((x.0, v) ∷ es) (x ∷ insert_entry eq es k v)) other ∙ ap (λ (xs : List (K × X)). x ∷ xs) (insert-last eq k v es rest)

-- what is found stays found
kept_at : {X : Type 0} (b : Bool) (x y : X) (o p : Option X) → cond b (Some x) o ≡ Some y → (o ≡ Some y → p ≡ Some y) → cond b (Some x) p ≡ Some y
kept_at true x y o p e h = e
kept_at false x y o p e h = h e

pub lookup-kept : {K X : Type 0} (test : K → Bool) (es more : List (K × X)) (v : X) → lookup test es ≡ Some v → lookup test (es ++ more) ≡ Some v
lookup-kept test [] more v e = absurd cc
lookup-kept test (x ∷ es) more v e = kept_at (test x.0) x.1 v (lookup test es) (lookup test (es ++ more)) e (lookup-kept test es more v)

-- the last one is found where no other is
last_at : {X : Type 0} (b : Bool) (x y : X) (o p : Option X) → cond b (Some x) o ≡ None → (o ≡ None → p ≡ Some y) → cond b (Some x) p ≡ Some y
last_at true x y o p e h = absurd cc
last_at false x y o p e h = h e

pub lookup-last : {K X : Type 0} (test : K → Bool) (es : List (K × X)) (k : K) (v : X) → lookup test es ≡ None → test k ≡ true → lookup test (es ++ (k, v) ∷ []) ≡ Some v
lookup-last test [] k v e t = ap (λ (b : Bool). cond b (Some v) None) t
lookup-last test (x ∷ es) k v e t = last_at (test x.0) x.1 v (lookup test es) (lookup test (es ++ (k, v) ∷ [])) e (λ f. lookup-last test es k v f t)

-- which one is found in the longer list
either_at : {X : Type 0} (b : Bool) (x y : X) (o p : Option X) (Q : Type 0) → cond b (Some x) p ≡ Some y → (p ≡ Some y → (o ≡ Some y) ⊎ Q) → (cond b (Some x) o ≡ Some y) ⊎ Q
either_at true x y o p Q e h = inl e
either_at false x y o p Q e h = h e

only_last : {X : Type 0} (b : Bool) (x y : X) → cond b (Some x) None ≡ Some y → (b ≡ true) × (y ≡ x)
only_last true x y e = (refl, sym (same_Some x y e))
only_last false x y e = absurd cc

pub lookup-either : {K X : Type 0} (test : K → Bool) (es : List (K × X)) (k : K) (v x : X) → lookup test (es ++ (k, v) ∷ []) ≡ Some x → (lookup test es ≡ Some x) ⊎ ((test k ≡ true) × (x ≡ v))
lookup-either test [] k v x e = inr (only_last (test k) v x e)
lookup-either test (y ∷ es) k v x e = either_at (test y.0) y.1 x (lookup test es) (lookup test (es ++ (k, v) ∷ [])) ((test k ≡ true) × (x ≡ v)) e (lookup-either test es k v x)

-- what holds of all entries holds of the one that is found
found_at : {K X : Type 0} (P : K × X → Type 0) (test : K → Bool) (e : K × X) (v : X) (o : Option X) (b : Bool) → test e.0 ≡ b → P e → cond b (Some e.1) o ≡ Some v → (o ≡ Some v → (k : K) × (test k ≡ true) × P (k, v)) → (k : K) × (test k ≡ true) × P (k, v)
found_at {K} {X} P test e v o true t p is rest = (e.0, t, subst (λ (x : X). P (e.0, x)) (same_Some e.1 v is) p)
found_at P test e v o false t p is rest = rest is

pub lookup-holds : {K X : Type 0} (P : K × X → Type 0) (test : K → Bool) (es : List (K × X)) (v : X) → AllByRecursion P es → lookup test es ≡ Some v → (k : K) × (test k ≡ true) × P (k, v)
lookup-holds P test [] v h e = absurd cc
lookup-holds P test (x ∷ es) v h e = found_at P test x v (lookup test es) (test x.0) refl h.0 e (lookup-holds P test es v h.1)

if_at : {X : Type 0} (P : X → Type 0) (b : Bool) (x : X) (o : Option X) → P x → IfSome o P → IfSome (cond b (Some x) o) P
if_at P true x o p h = p
if_at P false x o p h = h

pub lookup-if : {K X : Type 0} (P : X → Type 0) (test : K → Bool) (es : List (K × X)) → AllByRecursion (λ e. P e.1) es → IfSome (lookup test es) P
lookup-if P test [] h = tt
lookup-if P test (x ∷ es) h = if_at P (test x.0) x.1 (lookup test es) h.0 (lookup-if P test es h.1)

-- what the code tests of an option
pub none-found : {X : Type 0} (o p : Option X) (b : Bool) → b ≡ is_some o → b ≡ false → o ≡ p → p ≡ None
none-found None p b e f same = sym same
none-found (Some n) p b e f same = absurd (true≢false (sym e ∙ f))

pub some-found : {X : Type 0} (o p : Option X) (b : Bool) → b ≡ is_some o → b ≡ true → o ≡ p → is_some p ≡ true
some-found o p b e f same = ap is_some (sym same) ∙ sym e ∙ f
