-- The entries of a quantification: above the variable the results for the two nodes are the two nodes of the result.
use Rattle.std.proofs.Common.{◌≡◌, ℕ, zero, suc, ◌+◌, ◌≤◌, ◌<◌, ◌==◌, ◌&&◌, ◌||◌, ◌⊎◌, ◌++◌, Bool, true, false, if◌then◌else◌, List, [], ◌∷◌, length, take, get_or, nat_eq, slice_index, Option, Some, None, refl, sym, ap, ◌∙◌, subst, arith, append_assoc}
use Rattle.std.specs.Prelude.{option_to_list}
use Rattle.std.specs.Option.{is_some}
use Rattle.std.proofs.lemmas.List.{append-nil}
use Rattle.std.proofs.lemmas.Bool.{cond-true, eq-eqb, eqb-true, and_parts}
use Rattle.std.proofs.lemmas.Option.{slice_get_within, slice_get_read, get_or_from_slice_get}
use Rattle.kn_logic.proofs.Public.{All-push}
use Rattle.kn_rules.specs.declared.given.Given.{Given}
use Rattle.kn_rules.specs.States.{ProofState}
use Rattle.kn_diagram.specs.declared.trace.Met.{Met}
use Rattle.kn_diagram.specs.Diagrams.{Table, IsTable, IsBranch, with_value, function_of, depth_of, high_of, low_of, high_at, low_at, depth_in}
use Rattle.kn_diagram.specs.Traces.{found, AreExplained}
use Rattle.kn_diagram.proofs.Public.{canonical, depth_in-slice_index, slice_index-depth_in, split-at, high-function, low-function, function_of-constant, found-right}
use Rattle.kn_quant.specs.Quantified.{IsQuantified, IsAccounted, AreAccounted}
use Rattle.kn_justify.specs.declared.name.Name.{Name}
use Rattle.kn_justify.specs.declared.side.Side.TheVariants.{Left, Right}
use Rattle.kn_justify.specs.Arms.{Settled}
use Rattle.kn_justify.specs.Growth.{Grown}
use Rattle.kn_justify.specs.Names.{arm_at, pair_arms, high_met, low_met}
use Rattle.kn_justify.specs.Lemmas.{lemma_of, has_lemma, alone, AreJoined, IsReduced, AreReduced, AreCovered, HasParts, AreParted}
use Rattle.kn_justify.proofs.HintLemmas.{trivial-settled, settled-grows}
use Rattle.kn_justify.proofs.LookupLemmas.{lookup-holds}
use Rattle.kn_justify.proofs.EntryLemmas.{first_same, found-joined, alone-high, alone-low}
use Rattle.kn_justify.proofs.TraceLemmas.{All-weaker, covered-pair}

-- the result where the node isn't above the variable
alone_same : (given : List Given) (names : List (ℕ × Name)) (u w : ℕ) → w ≡ u → Settled given [] (pair_arms names (alone u w))
alone_same given names u w e = subst (λ (x : ℕ). Settled given [] (pair_arms names (alone u x))) (sym e) (trivial-settled given (pair_arms names (alone u u)) (first_same (arm_at names u) (arm_at names 1)))

both_same : (b : Bool) → (b || b) ≡ b
both_same true = refl
both_same false = refl

pub constant-settled : (given : List Given) (d : Table) (names : List (ℕ × Name)) (variable u w : ℕ) → IsTable d → IsQuantified d variable u w → u < 2 → Settled given [] (pair_arms names (alone u w))
constant-settled given d names variable u w ok h low =
    alone_same given names u w (canonical d ok w u h.w_there h.u_there (λ z.
    h.function z
    ∙ (λ i. function_of-constant d u (with_value z variable true) low i || function_of-constant d u (with_value z variable false) low i)
    ∙ both_same (u == 1) ∙ sym (function_of-constant d u z low)))

pub below-settled : (given : List Given) (d : Table) (names : List (ℕ × Name)) (variable : ℕ) (left right lemmas : List ((ℕ × ℕ) × Option ℕ)) (m : Met) (own place : ℕ) → HasParts d variable left right lemmas m → own ≡ depth_of d m.u → place ≡ depth_in d.order variable → place < own → Settled given [] (pair_arms names (alone m.u m.w))
below-settled given d names variable left right lemmas m own place h e f k = alone_same given names m.u m.w (h.below (omega (arith, e, f, k)))

-- two variables are set in either order
not_both : (p q b c z : Bool) → (p ≡ true → q ≡ true → ⊥) → (if p then c else if q then b else z) ≡ (if q then b else if p then c else z)
not_both true true b c z h = absurd (h refl refl)
not_both true false b c z h = refl
not_both false true b c z h = refl
not_both false false b c z h = refl

swap : (z : ℕ → Bool) (x y : ℕ) (b c : Bool) → (x ≡ y → ⊥) → with_value (with_value z y b) x c ≡ with_value (with_value z x c) y b
swap z x y b c n = λ i t. not_both (t == x) (t == y) b c (z t) (λ p q. n (sym (eqb-true t x p) ∙ eqb-true t y q)) i

apart : (d : Table) (y depth : ℕ) → IsTable d → depth < length d.order → depth < depth_in d.order y → slice_index d.order depth ≡ y → ⊥
apart d y depth ok within above e = omega (arith, depth_in-slice_index d.order depth ok.order within, ap (λ (x : ℕ). depth_in d.order x) e, above)

quantified-high : (d : Table) (y u w c depth : ℕ) → IsTable d → depth < length d.order → depth < depth_in d.order y → depth ≤ depth_of d u → depth ≤ depth_of d w → IsQuantified d y u w → IsQuantified d y (high_at d depth u) c → c ≡ high_at d depth w
quantified-high d y u w c depth ok within above hu hw m n =
    canonical d ok c (high_at d depth w) n.w_there (split-at d w depth ok m.w_there within hw).high_there
    (λ z. n.function z
    ∙ ap (λ (b : Bool). b || function_of d (high_at d depth u) (with_value z y false)) (half z true)
    ∙ ap (λ (b : Bool). function_of d u (with_value (with_value z (slice_index d.order depth) true) y true) || b) (half z false)
    ∙ sym (m.function (with_value z (slice_index d.order depth) true))
    ∙ sym (high-function d w depth z ok m.w_there within hw))
  where
    half : (z : ℕ → Bool) (b : Bool) → function_of d (high_at d depth u) (with_value z y b) ≡ function_of d u (with_value (with_value z (slice_index d.order depth) true) y b)
    half z b = high-function d u depth (with_value z y b) ok m.u_there within hu ∙ ap (λ (v : ℕ → Bool). function_of d u v) (swap z (slice_index d.order depth) y b true (apart d y depth ok within above))

quantified-low : (d : Table) (y u w c depth : ℕ) → IsTable d → depth < length d.order → depth < depth_in d.order y → depth ≤ depth_of d u → depth ≤ depth_of d w → IsQuantified d y u w → IsQuantified d y (low_at d depth u) c → c ≡ low_at d depth w
quantified-low d y u w c depth ok within above hu hw m n =
    canonical d ok c (low_at d depth w) n.w_there (split-at d w depth ok m.w_there within hw).low_there
    (λ z. n.function z
    ∙ ap (λ (b : Bool). b || function_of d (low_at d depth u) (with_value z y false)) (half z true)
    ∙ ap (λ (b : Bool). function_of d u (with_value (with_value z (slice_index d.order depth) false) y true) || b) (half z false)
    ∙ sym (m.function (with_value z (slice_index d.order depth) false))
    ∙ sym (low-function d w depth z ok m.w_there within hw))
  where
    half : (z : ℕ → Bool) (b : Bool) → function_of d (low_at d depth u) (with_value z y b) ≡ function_of d u (with_value (with_value z (slice_index d.order depth) false) y b)
    half z b = low-function d u depth (with_value z y b) ok m.u_there within hu ∙ ap (λ (v : ℕ → Bool). function_of d u v) (swap z (slice_index d.order depth) y b false (apart d y depth ok within above))

-- the lemma that is found for a node
same_pair : (p q : ℕ) (k : ℕ × ℕ) → (nat_eq p k.0 && nat_eq q k.1) ≡ true → k ≡ (p, q)
same_pair p q k t = (let parts = and_parts (nat_eq p k.0) (nat_eq q k.1) t in λ i. (sym (eqb-true p k.0 parts.0) i, sym (eqb-true q k.1 parts.1) i))

pub found-reduced : (given : List Given) (d : Table) (names : List (ℕ × Name)) (variable : ℕ) (lemmas : List ((ℕ × ℕ) × Option ℕ)) (p q : ℕ) (id : Option ℕ) → AreReduced given d names variable lemmas → lemma_of lemmas p q ≡ Some id → IsReduced given d names variable ((p, q), id)
found-reduced given d names variable lemmas p q id h e =
    let (k, t, j) = lookup-holds (IsReduced given d names variable) (λ x. nat_eq p x.0 && nat_eq q x.1) lemmas id h e in
    subst (λ (x : ℕ × ℕ). IsReduced given d names variable (x, id)) (same_pair p q k t) j

-- at the variable
pub is-at : (d : Table) (u var variable high low : ℕ) → IsBranch d u var high low → var ≡ variable → depth_of d u ≡ depth_in d.order variable
is-at d u var variable high low b e = sym b.depth_is ∙ ap (λ (x : ℕ). depth_in d.order x) e

own-high : (d : Table) (u own : ℕ) → own ≡ depth_of d u → high_at d own u ≡ high_of d u
own-high d u own e = cond-true (depth_of d u == own) (high_of d u) u (eq-eqb (depth_of d u) own (sym e))

own-low : (d : Table) (u own : ℕ) → own ≡ depth_of d u → low_at d own u ≡ low_of d u
own-low d u own e = cond-true (depth_of d u == own) (low_of d u) u (eq-eqb (depth_of d u) own (sym e))

pub first-half : (given : List Given) (d : Table) (names : List (ℕ × Name)) (variable : ℕ) (left right lemmas : List ((ℕ × ℕ) × Option ℕ)) (m seen : Met) (own high low : ℕ) (found : Option (Option ℕ)) (id : Option ℕ) → IsTable d → HasParts d variable left right lemmas m → depth_of d m.u ≡ depth_in d.order variable
    → own ≡ depth_of d m.u → high ≡ high_of d m.u → low ≡ low_of d m.u → seen ≡ alone m.u m.w → AreJoined given d names Left left → found ≡ lemma_of left high low → found ≡ Some id
    → Settled given (option_to_list id) (pair_arms names (record { u = high_at d own seen.u; v = 1; w = seen.w }))
first-half given d names variable left right lemmas m seen own high low found id ok h at e eh el es j f g =
    let there : lemma_of left (high_of d m.u) (low_of d m.u) ≡ Some id = subst (λ (x : ℕ). lemma_of left x (low_of d m.u) ≡ Some id) eh (subst (λ (x : ℕ). lemma_of left high x ≡ Some id) el (sym f ∙ g)) in
    let k = found-joined given d names Left left (high_of d m.u) (low_of d m.u) id j there in
    let r = h.halves at in
    let same : k.w ≡ m.w = canonical d ok k.w m.w k.right.w_there r.w_there (λ v. k.right.function v ∙ sym (r.function v)) in
    subst (λ (x : Met). Settled given (option_to_list id) (pair_arms names (record { u = high_at d own x.u; v = 1; w = x.w }))) (sym es)
    (subst (λ (x : ℕ). Settled given (option_to_list id) (pair_arms names (alone x m.w))) (sym (own-high d m.u own e))
    (subst (λ (x : ℕ). Settled given (option_to_list id) (pair_arms names (alone (high_of d m.u) x))) same k.settled))

pub second-half : (given : List Given) (d : Table) (names : List (ℕ × Name)) (variable : ℕ) (left right lemmas : List ((ℕ × ℕ) × Option ℕ)) (m seen : Met) (own high low : ℕ) (found : Option (Option ℕ)) (id : Option ℕ) → IsTable d → HasParts d variable left right lemmas m → depth_of d m.u ≡ depth_in d.order variable
    → own ≡ depth_of d m.u → high ≡ high_of d m.u → low ≡ low_of d m.u → seen ≡ alone m.u m.w → AreJoined given d names Right right → found ≡ lemma_of right high low → found ≡ Some id
    → Settled given (option_to_list id) (pair_arms names (record { u = low_at d own seen.u; v = 1; w = seen.w }))
second-half given d names variable left right lemmas m seen own high low found id ok h at e eh el es j f g =
    let there : lemma_of right (high_of d m.u) (low_of d m.u) ≡ Some id = subst (λ (x : ℕ). lemma_of right x (low_of d m.u) ≡ Some id) eh (subst (λ (x : ℕ). lemma_of right high x ≡ Some id) el (sym f ∙ g)) in
    let k = found-joined given d names Right right (high_of d m.u) (low_of d m.u) id j there in
    let r = h.halves at in
    let same : k.w ≡ m.w = canonical d ok k.w m.w k.right.w_there r.w_there (λ v. k.right.function v ∙ sym (r.function v)) in
    subst (λ (x : Met). Settled given (option_to_list id) (pair_arms names (record { u = low_at d own x.u; v = 1; w = x.w }))) (sym es)
    (subst (λ (x : ℕ). Settled given (option_to_list id) (pair_arms names (alone x m.w))) (sym (own-low d m.u own e))
    (subst (λ (x : ℕ). Settled given (option_to_list id) (pair_arms names (alone (low_of d m.u) x))) same k.settled))

-- above the variable
pub is-above : (d : Table) (u var variable high low own place : ℕ) → IsBranch d u var high low → own ≡ depth_of d u → place ≡ depth_in d.order variable → own ≤ place → (var ≡ variable → ⊥) → depth_of d u < depth_in d.order variable
is-above d u var variable high low own place b e f le n =
    let apart : depth_of d u ≡ depth_in d.order variable → ⊥ = λ same. n (b.variable_is ∙ ap (λ (x : ℕ). slice_index d.order x) same ∙ slice_index-depth_in d.order variable (omega (arith, same, b.within))) in
    omega (arith, apart, e, f, le)

pub high-part : (given : List Given) (d : Table) (names : List (ℕ × Name)) (variable : ℕ) (left right lemmas : List ((ℕ × ℕ) × Option ℕ)) (m seen : Met) (own high : ℕ) (found : Option (Option ℕ)) (id : Option ℕ) → IsTable d → own < length d.order → HasParts d variable left right lemmas m → depth_of d m.u < depth_in d.order variable
    → own ≡ depth_of d m.u → high ≡ high_of d m.u → seen ≡ alone m.u m.w → AreReduced given d names variable lemmas → found ≡ lemma_of lemmas high high → found ≡ Some id → Settled given (option_to_list id) (pair_arms names (high_met d own seen))
high-part given d names variable left right lemmas m seen own high found id ok within h above e eh es j f g =
    let is : high ≡ high_at d own m.u = eh ∙ sym (own-high d m.u own e) in
    let k = found-reduced given d names variable lemmas high high id j (sym f ∙ g) in
    let r = subst (λ (x : ℕ). IsQuantified d variable x k.w) is k.right in
    let same : k.w ≡ high_at d own m.w = quantified-high d variable m.u m.w k.w own ok within (omega (arith, e, above)) (omega (arith, e)) (omega (arith, e, h.is_right.depth_is)) h.is_right r in
    subst (λ (x : Met). Settled given (option_to_list id) (pair_arms names (high_met d own x))) (sym es)
    (subst (λ (x : Met). Settled given (option_to_list id) (pair_arms names x)) (alone-high d own m.u m.w ok within)
    (subst (λ (x : ℕ). Settled given (option_to_list id) (pair_arms names (alone x (high_at d own m.w)))) is
    (subst (λ (x : ℕ). Settled given (option_to_list id) (pair_arms names (alone high x))) same k.settled)))

pub low-part : (given : List Given) (d : Table) (names : List (ℕ × Name)) (variable : ℕ) (left right lemmas : List ((ℕ × ℕ) × Option ℕ)) (m seen : Met) (own low : ℕ) (found : Option (Option ℕ)) (id : Option ℕ) → IsTable d → own < length d.order → HasParts d variable left right lemmas m → depth_of d m.u < depth_in d.order variable
    → own ≡ depth_of d m.u → low ≡ low_of d m.u → seen ≡ alone m.u m.w → AreReduced given d names variable lemmas → found ≡ lemma_of lemmas low low → found ≡ Some id → Settled given (option_to_list id) (pair_arms names (low_met d own seen))
low-part given d names variable left right lemmas m seen own low found id ok within h above e el es j f g =
    let is : low ≡ low_at d own m.u = el ∙ sym (own-low d m.u own e) in
    let k = found-reduced given d names variable lemmas low low id j (sym f ∙ g) in
    let r = subst (λ (x : ℕ). IsQuantified d variable x k.w) is k.right in
    let same : k.w ≡ low_at d own m.w = quantified-low d variable m.u m.w k.w own ok within (omega (arith, e, above)) (omega (arith, e)) (omega (arith, e, h.is_right.depth_is)) h.is_right r in
    subst (λ (x : Met). Settled given (option_to_list id) (pair_arms names (low_met d own x))) (sym es)
    (subst (λ (x : Met). Settled given (option_to_list id) (pair_arms names x)) (alone-low d own m.u m.w ok within)
    (subst (λ (x : ℕ). Settled given (option_to_list id) (pair_arms names (alone x (low_at d own m.w)))) is
    (subst (λ (x : ℕ). Settled given (option_to_list id) (pair_arms names (alone low x))) same k.settled)))

-- a pair that has a lemma is found
pub not-missing : (lemmas : List ((ℕ × ℕ) × Option ℕ)) (p q x y : ℕ) (o : Option (Option ℕ)) → has_lemma lemmas x y ≡ true → p ≡ x → q ≡ y → o ≡ lemma_of lemmas p q → o ≡ None → ⊥
not-missing lemmas p q x y o h e f g k =
    let there : has_lemma lemmas p q ≡ true = subst (λ (z : ℕ). has_lemma lemmas z q ≡ true) (sym e) (subst (λ (z : ℕ). has_lemma lemmas x z ≡ true) (sym f) h) in
    let none : has_lemma lemmas p q ≡ false = ap is_some (sym g ∙ k) in
    absurd cc

-- the entry at a place
accounted-at : (d : Table) (variable : ℕ) (halves before ms : List Met) (i : ℕ) (x : Met) → AreAccounted d variable halves before ms → i < length ms → x ≡ get_or ms i x → IsAccounted d variable halves (before ++ take i ms) x
accounted-at d variable halves before [] i x h b e = absurd (omega arith)
accounted-at d variable halves before (m ∷ ms) zero x h b e = subst (λ (y : Met). IsAccounted d variable halves (before ++ []) y) (sym e) (subst (λ (bs : List Met). IsAccounted d variable halves bs m) (sym (append-nil before)) h.0)
accounted-at d variable halves before (m ∷ ms) (suc i) x h b e =
    subst (λ (bs : List Met). IsAccounted d variable halves bs x) (append_assoc before (m ∷ []) (take i ms))
    (accounted-at d variable halves (before ++ m ∷ []) ms i x h.1 (omega arith) e)

pub has-parts : (d : Table) (variable : ℕ) (halves ms : List Met) (left right : List ((ℕ × ℕ) × Option ℕ)) → AreExplained (λ a b. a || b) d [] halves → AreAccounted d variable halves [] ms → AreCovered left halves → AreCovered right halves → AreParted d variable left right ms
has-parts d variable halves ms left right x h cl cr i m lemmas e c =
    let at = accounted-at d variable halves [] ms i m h (slice_get_within ms i m e) (sym (get_or_from_slice_get ms i m m e)) in
    record {
      is_right = at.right;
      highs = λ k. covered-pair lemmas (take i ms) _ _ c (at.highs k);
      lows = λ k. covered-pair lemmas (take i ms) _ _ c (at.lows k);
      halves = λ k. found-right (λ a b. a || b) d [] halves (high_of d m.u) (low_of d m.u) m.w x (at.joined k);
      first = λ k. covered-pair left halves (high_of d m.u) (low_of d m.u) cl (ap is_some (at.joined k));
      second = λ k. covered-pair right halves (high_of d m.u) (low_of d m.u) cr (ap is_some (at.joined k));
      below = at.below;
    }

pub parts-at : (d : Table) (variable : ℕ) (ms : List Met) (left right lemmas : List ((ℕ × ℕ) × Option ℕ)) (i : ℕ) (m : Met) → AreParted d variable left right ms → AreCovered lemmas (take i ms) → i < length ms → m ≡ get_or ms i m → HasParts d variable left right lemmas m
parts-at d variable ms left right lemmas i m h c b e = h i m lemmas (slice_get_read ms (length ms) i m refl b e) c

-- lemmas stay right while the state grows, and one more comes
pub reduced-grow : (old new : ProofState) (d : Table) (names : List (ℕ × Name)) (variable : ℕ) (lemmas : List ((ℕ × ℕ) × Option ℕ)) → Grown old new → AreReduced old.given d names variable lemmas → AreReduced new.given d names variable lemmas
reduced-grow old new d names variable lemmas g h =
    All-weaker (IsReduced old.given d names variable) (IsReduced new.given d names variable) lemmas
    (λ x j. record { w = j.w; right = j.right; settled = settled-grows old new (option_to_list x.1) (pair_arms names (alone x.0.0 j.w)) g j.settled }) h

pub reduced-more : (old new : ProofState) (d : Table) (names : List (ℕ × Name)) (variable : ℕ) (lemmas next : List ((ℕ × ℕ) × Option ℕ)) (m : Met) (id : Option ℕ) → Grown old new → AreReduced old.given d names variable lemmas → IsQuantified d variable m.u m.w
    → Settled new.given (option_to_list id) (pair_arms names (alone m.u m.w)) → next ≡ lemmas ++ ((m.u, m.v), id) ∷ [] → AreReduced new.given d names variable next
reduced-more old new d names variable lemmas next m id g h right settled is =
    subst (λ (x : List ((ℕ × ℕ) × Option ℕ)). AreReduced new.given d names variable x) (sym is)
    (All-push (IsReduced new.given d names variable) lemmas ((m.u, m.v), id) (reduced-grow old new d names variable lemmas g h) (record { w = m.w; right = right; settled = settled }))
