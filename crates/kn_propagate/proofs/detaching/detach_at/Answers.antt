use Rattle.std.proofs.Common.{◌≡◌, ◌+◌, ℕ, true, ◌<◌, length, sym, ap, ◌∙◌, subst, arith}
use Rattle.kn_logic.specs.Constraints.{Bounded}
use Rattle.kn_watch.specs.Watches.{listed, lit_at}
use Rattle.kn_propagate.specs.Chains.{Watching, seen_as, at_slot, code, cut}
use Rattle.kn_propagate.proofs.Relinking.{a_spot}
use Rattle.kn_propagate.proofs.Turning.{length-seen, seen_here}
use Rattle.kn_propagate.proofs.Walks.{code_known, listed_known}
use Rattle.kn_propagate.proofs.Adding.{cut_gains, cut_taken, length-cut, c_cut}
use Rattle.kn_propagate.proofs.Releasing.{still_releases, spare_releases, stands_in}
use Rattle.kn_propagate.proofs.detaching.detach_at.Goals as goal

pub release-requires-clause-stands : goal.release-requires-clause-stands
release-requires-clause-stands g c =
    let b = g.W.Watched.bounded in
    let w = g.W.Watched.watches in
    let slots = c.args.slots.now.items in
    let ws = seen_as b w slots in
    let owner : ℕ = c.args.owner in
    let place : ℕ = c.args.place in
    let r = c.requires in
    let here = seen_here b w slots owner c.index.result.now (omega (arith, r.owner, length-seen b w slots)) c.index.ensures in
    let watched : (at_slot ws owner).watches place ≡ true = ap (λ (x : Watching). x.watches place) here ∙ sym c.watched.ensures ∙ c.if-not-watched.false in
    let same = c_cut ws owner (place + 1) owner r.owner in
    let kq : c.code_at-chain.result ≡ code (lit_at (listed (at_slot (cut ws owner (place + 1)) owner).c) place) = c.code_at-chain.ensures ∙ ap (λ (x : Bounded). code (lit_at (listed x) place)) (sym same) in
    let known = code_known c.args.vars c.args.chains.now.heads (lit_at (listed (at_slot ws owner).c) place) (listed_known c.args.vars (at_slot ws owner).c place (r.within owner r.owner) r.place) r.sized in
    stands_in (cut ws owner (place + 1)) c.args.chains.now c.code_at-chain.result owner place r.still (omega (arith, r.owner, length-cut ws owner (place + 1))) (subst (λ (x : Bounded). place < length (listed x)) (sym same) r.place) (cut_taken ws owner place r.owner watched) kq (omega (arith, known, c.code_at-chain.ensures))

pub returns-clause-still : goal.returns-clause-still
returns-clause-still g c =
    let b = g.W.Watched.bounded in
    let w = g.W.Watched.watches in
    let slots = c.args.slots.now.items in
    let ws = seen_as b w slots in
    let owner : ℕ = c.args.owner in
    let place : ℕ = c.args.place in
    let r = c.requires in
    let here = seen_here b w slots owner c.index.result.now (omega (arith, r.owner, length-seen b w slots)) c.index.ensures in
    let watched : (at_slot ws owner).watches place ≡ true = ap (λ (x : Watching). x.watches place) here ∙ sym c.watched.ensures ∙ c.if-not-watched.false in
    let known = code_known c.args.vars c.args.chains.now.heads (lit_at (listed (at_slot ws owner).c) place) (listed_known c.args.vars (at_slot ws owner).c place (r.within owner r.owner) r.place) r.sized in
    still_releases (cut ws owner place) (cut ws owner (place + 1)) c.args.chains.now c.release.new.self c.code_at-chain.result (a_spot owner place) r.still (cut_gains ws owner place r.owner r.place watched) (omega (arith, known, c.code_at-chain.ensures)) c.release.ensures

pub returns-clause-spare : goal.returns-clause-spare
returns-clause-spare g c =
    let ws = seen_as g.W.Watched.bounded g.W.Watched.watches c.args.slots.now.items in
    let owner : ℕ = c.args.owner in
    let place : ℕ = c.args.place in
    let r = c.requires in
    let known = code_known c.args.vars c.args.chains.now.heads (lit_at (listed (at_slot ws owner).c) place) (listed_known c.args.vars (at_slot ws owner).c place (r.within owner r.owner) r.place) r.sized in
    spare_releases (cut ws owner (place + 1)) c.args.chains.now c.release.new.self c.code_at-chain.result (a_spot owner place) r.still (omega (arith, r.few, length-cut ws owner (place + 1))) (omega (arith, known, c.code_at-chain.ensures)) r.spare c.release.ensures
