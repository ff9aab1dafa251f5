use Rattle.std.proofs.Common.{◌≡◌, ◌≤◌, ◌+◌, ◌++◌, ◌∷◌, [], sym, ap, ◌∙◌, subst, ℕ, List, Some, refl}
use Rattle.kn_logic.specs.Constraints.{Bounded}
use Rattle.std.proofs.lemmas.Bool.{ltb-false, ltb-true, eqb-true, eqb-false}
use Rattle.kn_justify.specs.Names.{name_of, arm_at, HasNames}
use Rattle.kn_justify.specs.Chains.{Chain}
use Rattle.kn_justify.proofs.NameLemmas.{has-own, has-high, has-low, name-right}
use Rattle.kn_justify.proofs.ChainLemmas.{chain-start, chain-high, chain-low, chain-refutes}
use Rattle.kn_justify.proofs.clauses.chain_hints.Goals as goal

pub loop-parts-init : goal.loop-parts-init
loop-parts-init c = record {
  chain = subst (λ (x : List ℕ). Chain c.args.log.now.state.given c.args.d.now c.args.named.now c.args.c.now.lits c.args.f c.args.f x) (sym c.new-hints.ensures.items)
      (chain-start c.args.log.now.state.given c.args.d.now c.args.named.now c.args.c.now.lits c.args.f c.requires.there c.requires.function);
  named = c.requires.named;
}

pub unreachable-requires : goal.unreachable-requires
unreachable-requires c =
    let (n, is, right) = has-own c.args.log.now.state c.args.d.now c.args.named.now c.loop-parts.node c.loop-parts.invariant.named (ltb-false _ _ (sym c.in-Some.ensures.constant)) in
    c.in_default-get.not-Some n (c.get.ensures.value ∙ is)

pub loop-parts-preserved-then-eq : goal.loop-parts-preserved-then-eq
loop-parts-preserved-then-eq c =
    let is : name_of c.args.named.now c.loop-parts.node ≡ Some c.in-Some-get.name = sym c.get.ensures.value ∙ c.in-Some-get.is in
    let two : 2 ≤ c.loop-parts.node = ltb-false _ _ (sym c.in-Some.ensures.constant) in
    let b = c.in-Some.ensures.branch in
    let named = c.loop-parts.invariant.named in
    let right = name-right c.args.log.now.state c.args.d.now c.args.named.now c.loop-parts.node c.in-Some-get.name (has-own c.args.log.now.state c.args.d.now c.args.named.now c.loop-parts.node named) two is in
    let items : c.push-then-eq.new.self.items ≡ (c.loop-parts.hints.items ++ (c.in-Some-get.name.id + 2) ∷ []) ++ (c.in-Some-get.name.id + 3) ∷ [] = c.in_ok-push-2.ensures.items ∙ ap (λ (x : List ℕ). x ++ (c.in-Some-get.name.id + 3) ∷ []) c.in_ok-push.ensures.items in
    record {
      chain = subst (λ (x : List ℕ). Chain c.args.log.now.state.given c.args.d.now c.args.named.now c.args.c.now.lits c.args.f c.in-Some.parts.2 x) (sym items)
          (chain-high c.args.log.now.state c.args.d.now c.args.named.now c.args.c.now.lits c.args.f c.loop-parts.node c.in-Some.parts.1 c.in-Some.parts.2 c.loop-parts.hints.items c.in-Some-get.name c.depth-depth.ensures.table right two is c.loop-parts.invariant.chain b.high_is b.low_is (eqb-true _ _ (sym c.if-eq.ensures)));
      named = subst (λ (x : ℕ). HasNames c.args.log.now.state c.args.d.now c.args.named.now x) (sym b.low_is)
          (has-low c.args.log.now.state c.args.d.now c.args.named.now c.loop-parts.node c.depth-depth.ensures.table c.loop-parts.invariant.chain.there two named);
    }

pub loop-parts-preserved : goal.loop-parts-preserved
loop-parts-preserved c =
    let is : name_of c.args.named.now c.loop-parts.node ≡ Some c.in-Some-get.name = sym c.get.ensures.value ∙ c.in-Some-get.is in
    let two : 2 ≤ c.loop-parts.node = ltb-false _ _ (sym c.in-Some.ensures.constant) in
    let b = c.in-Some.ensures.branch in
    let named = c.loop-parts.invariant.named in
    let right = name-right c.args.log.now.state c.args.d.now c.args.named.now c.loop-parts.node c.in-Some-get.name (has-own c.args.log.now.state c.args.d.now c.args.named.now c.loop-parts.node named) two is in
    let items : c.push-else-eq-2.new.self.items ≡ (c.loop-parts.hints.items ++ (c.in-Some-get.name.id + 3) ∷ []) ++ (c.in-Some-get.name.id + 2) ∷ [] = c.in_ok-push-4.ensures.items ∙ ap (λ (x : List ℕ). x ++ (c.in-Some-get.name.id + 2) ∷ []) c.in_ok-push-3.ensures.items in
    record {
      chain = subst (λ (x : List ℕ). Chain c.args.log.now.state.given c.args.d.now c.args.named.now c.args.c.now.lits c.args.f c.in-Some.parts.1 x) (sym items)
          (chain-low c.args.log.now.state c.args.d.now c.args.named.now c.args.c.now.lits c.args.f c.loop-parts.node c.in-Some.parts.1 c.in-Some.parts.2 c.loop-parts.hints.items c.in-Some-get.name c.depth-depth.ensures.table right two is c.loop-parts.invariant.chain b.high_is b.low_is (eqb-false _ _ (sym c.if-eq.ensures)));
      named = subst (λ (x : ℕ). HasNames c.args.log.now.state c.args.d.now c.args.named.now x) (sym b.high_is)
          (has-high c.args.log.now.state c.args.d.now c.args.named.now c.loop-parts.node c.depth-depth.ensures.table c.loop-parts.invariant.chain.there two named);
    }

pub returns : goal.returns
returns c =
    chain-refutes c.args.log.now.state c.args.d.now c.args.named.now c.args.c.now.lits c.args.f c.loop-parts.node c.loop-parts.hints.items c.push-2.new.self.items c.args.id (arm_at c.args.named.now c.args.f ∷ []) c.depth-depth.ensures.table (c.requires.live ∙ ap (λ (x : Bounded). Some x) c.requires.clause) c.loop-parts.invariant.chain
    (ltb-true _ _ (sym c.in_default.ensures.constant)) c.in_ok-push-5.ensures.items refl
