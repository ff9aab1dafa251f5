-- The runs of the lines that justify a join of two nodes, or a quantified variable. Each is the same whatever
-- of the arms are constants, and whichever hints are not there since their clause needs no line.
use Rattle.std.proofs.Common.{◌≡◌, ◌++◌, List, [], ◌∷◌, Option, None, refl, ◌∙◌, inl, inr}
use Rattle.kn_logic.specs.Literals.{Literal, negated}
use Rattle.kn_logic.specs.Constraints.{Bounded}
use Rattle.kn_lines.specs.declared.line.Arm.{Arm}
use Rattle.kn_lines.specs.declared.line.Arm.TheVariants as arm
use Rattle.kn_rules.specs.Steps.{opposite}
use Rattle.kn_justify.specs.Arms.{run_on, AllRefuted, Settles, Refutes}
use Rattle.kn_justify.proofs.ArmLemmas.{twice, has_true_arm, conflict, run-keeps, run-append}

-- a run in four parts
ends_in_four : (a b c d : List Bounded) (run : Option (List Literal)) → run_on (run_on (run_on (run_on run a) b) c) d ≡ None → run_on run (a ++ (b ++ (c ++ d))) ≡ None
ends_in_four a b c d run e =
    run-append a (b ++ (c ++ d)) run ∙ run-append b (c ++ d) (run_on run a) ∙ run-append c d (run_on (run_on run a) b) ∙ e

-- One side of a pair: "Y, or not u, or not v, or w", Y being the negation of what is tested; du, dv, dw are the
-- definitions' clauses, ch is the lemma of the pair of children.
pub side-refutes : (y u v w uh vh wh : Arm) (du dv ch dw : List Bounded)
    → Settles du (opposite u ∷ y ∷ uh ∷ []) → Settles dv (opposite v ∷ y ∷ vh ∷ [])
    → Settles ch (opposite uh ∷ opposite vh ∷ wh ∷ []) → Settles dw (w ∷ y ∷ opposite wh ∷ [])
    → Refutes (du ++ (dv ++ (ch ++ dw))) (y ∷ opposite u ∷ opposite v ∷ w ∷ [])
side-refutes y u v w uh vh wh du dv ch dw hu hv hc hw run s (ry, (ru, (rv, (nw, _)))) =
    let s1 = hu.sound run s in
    let s2 = hv.sound (run_on run du) s1 in
    let s3 = hc.sound (run_on (run_on run du) dv) s2 in
    let s4 = hw.sound (run_on (run_on (run_on run du) dv) ch) s3 in
    let u1 = hu.forces run uh s (inr (ru, inr (ry, inl (refl, tt)))) in
    let v2 = hv.forces (run_on run du) vh s1 (inr (run-keeps du run _ rv, inr (run-keeps du run _ ry, inl (refl, tt)))) in
    let u2 = run-keeps dv (run_on run du) uh u1 in
    let w3 = hc.forces (run_on (run_on run du) dv) wh s2 (inr (twice _ uh u2, inr (twice _ vh v2, inl (refl, tt)))) in
    let y3 = run-keeps ch _ (opposite y) (run-keeps dv _ (opposite y) (run-keeps du run (opposite y) ry)) in
    let n3 = run-keeps ch _ (opposite w) (run-keeps dv _ (opposite w) (run-keeps du run (opposite w) nw)) in
    let w4 = hw.forces (run_on (run_on (run_on run du) dv) ch) w s3 (inl (refl, (y3, (twice _ wh w3, tt)))) in
    ends_in_four du dv ch dw run (conflict _ s4 w w4 (run-keeps dw _ (opposite w) n3))

stays : (cs : List Bounded) (run : Option (List Literal)) (arms : List Arm) → AllRefuted run arms → AllRefuted (run_on run cs) arms
stays cs run [] h = tt
stays cs run (a ∷ arms) h = (run-keeps cs run (opposite a) h.0, stays cs run arms h.1)

-- The second line: the first one says what the tested variable is.
pub second-refutes : (x : Literal) (arms : List Arm) (first rest : List Bounded)
    → Settles first (arm.Lit (negated x) ∷ arms) → Refutes rest (arm.Lit x ∷ arms) → Refutes (first ++ rest) arms
second-refutes x arms first rest hf hr run s r =
    run-append first rest run
    ∙ hr (run_on run first) (hf.sound run s) (hf.forces run (arm.Lit (negated x)) s (inl (refl, r)), stays first run arms r)

-- At the quantified variable: the halves' lemmas, and the two clauses of the node.
pub halves-refute : (x : Literal) (u w uh ul : Arm) (hh hl dh dl : List Bounded)
    → Settles hh (opposite uh ∷ arm.False ∷ w ∷ []) → Settles hl (opposite ul ∷ arm.False ∷ w ∷ [])
    → Settles dh (opposite u ∷ arm.Lit (negated x) ∷ uh ∷ []) → Settles dl (opposite u ∷ arm.Lit x ∷ ul ∷ [])
    → Refutes (hh ++ (hl ++ (dh ++ dl))) (opposite u ∷ arm.False ∷ w ∷ [])
halves-refute x u w uh ul hh hl dh dl jh jl kh kl run s (ru, (_, (nw, _))) =
    let s1 = jh.sound run s in
    let s2 = jl.sound (run_on run hh) s1 in
    let s3 = kh.sound (run_on (run_on run hh) hl) s2 in
    let s4 = kl.sound (run_on (run_on (run_on run hh) hl) dh) s3 in
    let h1 = jh.forces run (opposite uh) s (inl (refl, (has_true_arm run, (nw, tt)))) in
    let l2 = jl.forces (run_on run hh) (opposite ul) s1 (inl (refl, (has_true_arm (run_on run hh), (run-keeps hh run _ nw, tt)))) in
    let h2 = run-keeps hl _ (opposite uh) h1 in
    let u2 = run-keeps hl _ (opposite (opposite u)) (run-keeps hh run _ ru) in
    let x3 = kh.forces (run_on (run_on run hh) hl) (arm.Lit (negated x)) s2 (inr (u2, inl (refl, (h2, tt)))) in
    let u3 = run-keeps dh _ (opposite (opposite u)) u2 in
    let l4 = kl.forces (run_on (run_on (run_on run hh) hl) dh) ul s3 (inr (u3, inr (x3, inl (refl, tt)))) in
    let n4 = run-keeps dl _ (opposite ul) (run-keeps dh _ (opposite ul) l2) in
    ends_in_four hh hl dh dl run (conflict _ s4 ul l4 n4)

-- The unit of a conjunction, by those of its sides and the lemma of the pair.
pub unit-refutes : (u v w : Arm) (left right ch : List Bounded)
    → Settles left (u ∷ []) → Settles right (v ∷ []) → Settles ch (opposite u ∷ opposite v ∷ w ∷ [])
    → Refutes (left ++ (right ++ ch)) (w ∷ [])
unit-refutes u v w left right ch hl hr hc run s (nw, _) =
    let s1 = hl.sound run s in
    let s2 = hr.sound (run_on run left) s1 in
    let s3 = hc.sound (run_on (run_on run left) right) s2 in
    let u1 = hl.forces run u s (inl (refl, tt)) in
    let v2 = hr.forces (run_on run left) v s1 (inl (refl, tt)) in
    let u2 = run-keeps right _ u u1 in
    let w3 = hc.forces (run_on (run_on run left) right) w s2 (inr (twice _ u u2, inr (twice _ v v2, inl (refl, tt)))) in
    let n3 = run-keeps ch _ (opposite w) (run-keeps right _ (opposite w) (run-keeps left run (opposite w) nw)) in
    run-append left (right ++ ch) run ∙ run-append right ch (run_on run left) ∙ conflict _ s3 w w3 n3
