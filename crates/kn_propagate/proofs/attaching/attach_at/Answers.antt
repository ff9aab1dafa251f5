use Rattle.std.proofs.Common.{◌≡◌, ◌*◌, ◌+◌, ℕ, true, ◌≤◌, List, length, sym, ap, ◌∙◌, arith}
use Rattle.kn_logic.specs.Constraints.{Bounded}
use Rattle.kn_watch.specs.Watches.{listed, lit_at}
use Rattle.kn_propagate.specs.Chains.{Watching, seen_as, at_slot, code, lit_of_spot, cut, nobody}
use Rattle.kn_propagate.proofs.Relinking.{a_spot}
use Rattle.kn_propagate.proofs.Turning.{length-seen, seen_here}
use Rattle.kn_propagate.proofs.Adding.{still_unused, still_gains, spare_laid, cut_gains, within_cut, length-cut, c_cut}
use Rattle.kn_propagate.proofs.attaching.attach_at.Goals as goal

pub returns-clause-still : goal.returns-clause-still
returns-clause-still g c =
    let b = g.W.Watched.bounded in
    let w = g.W.Watched.watches in
    let slots = c.args.slots.now.items in
    let ws = seen_as b w slots in
    let owner : ℕ = c.args.owner in
    let place : ℕ = c.args.place in
    let r = c.requires in
    let here = seen_here b w slots owner c.index.result.now (omega (arith, r.owner, length-seen b w slots)) c.index.ensures in
    let watched : (at_slot ws owner).watches place ≡ true = ap (λ (x : Watching). x.watches place) here ∙ sym c.watched.ensures ∙ c.if-not-watched.false in
    let u = c.unused-entry.ensures in
    let within = within_cut c.args.vars ws owner place r.owner r.within in
    let unused = still_unused c.args.vars (cut ws owner place) c.args.chains.now c.unused-entry.new.self c.unused-entry.result r.sized within u r.still in
    let kq : c.code_at-chain.result ≡ code (lit_of_spot (cut ws owner place) (a_spot owner place)) = c.code_at-chain.ensures ∙ ap (λ (x : Bounded). code (lit_at (listed x) place)) (sym (c_cut ws owner place owner r.owner)) in
    let few : length (cut ws owner place) ≤ nobody = omega (arith, r.few, length-cut ws owner place) in
    let sized : length c.unused-entry.new.self.heads ≡ 2 * c.args.vars + 3 = ap (λ (x : List ℕ). length x) u.heads ∙ r.sized in
    still_gains c.args.vars (cut ws owner place) (cut ws owner (place + 1)) c.unused-entry.new.self c.lay_at.new.self c.unused-entry.result c.code_at-chain.result (a_spot owner place) unused (cut_gains ws owner place r.owner r.place watched) few u.free u.inside sized within kq c.lay_at.ensures.nexts c.lay_at.ensures.heads c.lay_at.ensures.spots

pub returns-clause-spare : goal.returns-clause-spare
returns-clause-spare g c = spare_laid c.unused-entry.new.self c.lay_at.new.self c.unused-entry.result _ (a_spot c.args.owner c.args.place) c.unused-entry.ensures.spare c.lay_at.ensures.nexts c.lay_at.ensures.spots c.lay_at.ensures.spare
