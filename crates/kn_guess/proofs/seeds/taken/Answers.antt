use Rattle.std.proofs.Common.{◌≡◌, ◌∙◌, List, ℕ, ap, sym, subst, length}
use Rattle.std.proofs.lemmas.List.{length-map}
use Rattle.std.specs.List.Sorted.{IsStrictlyIncreasing}
use Rattle.kn_logic.specs.Constraints.{Bounded}
use Rattle.kn_logic.specs.Groups.{Gathered, is_among}
use Rattle.kn_store.specs.Stores.{Stored, IsStored, constraints_of, ids_of, chosen}
use Rattle.kn_guess.specs.Guesses.{Guessed, touches, IsBorder}
use Rattle.kn_guess.specs.Seen.{found, ids_with}
use Rattle.kn_guess.proofs.Taken.{ids-are, found-are, taken-same, group-is}
use Rattle.kn_guess.proofs.seeds.taken.Goals as goal

-- what the ids and the clauses are, from what the calls say
ids-from : (s : Stored) (aux got all ids : List ℕ) → IsStored s → IsStrictlyIncreasing ids → ((x : ℕ) → is_among ids x ≡ is_among all x) → all ≡ ids_with s.live got → got ≡ aux → ids ≡ ids_of (chosen (touches aux) s.live)
ids-from s aux got all ids stored up same is was = ids-are s aux ids stored up (λ x. same x ∙ ap (λ z. is_among z x) (is ∙ ap (ids_with s.live) was))

taken-from : (s : Stored) (aux got ids : List ℕ) (taken : List Bounded) → IsStored s → taken ≡ found s.live got → got ≡ ids → ids ≡ ids_of (chosen (touches aux) s.live) → taken ≡ constraints_of (chosen (touches aux) s.live)
taken-from s aux got ids taken stored is was e = is ∙ ap (found s.live) (was ∙ e) ∙ found-are s (touches aux) stored

pub new-requires : goal.new-requires
new-requires c =
    let s = c.args.store.now in
    let ids = ids-from s c.args.aux.items c.deref.result.now _ c.ascending-ids.result.items c.requires.stored c.ascending-ids.ensures.ascending c.ascending-ids.ensures.same c.in_ok-ids_with.ensures c.deref.ensures.value in
    let is = taken-from s c.args.aux.items c.deref-2.result.now c.ascending-ids.result.items c.in_ok-clauses.clauses.items c.requires.stored c.in_ok-clauses.ensures c.deref-2.ensures.value ids in
    group-is s c.args.aux.items c.in_ok-clauses.clauses.items c.args.border.items c.requires.stored c.requires.known c.requires.alone c.requires.ascending is
    (subst (λ t. IsBorder t c.args.aux.items c.args.border.items) (sym (is ∙ taken-same (touches c.args.aux.items) s.live)) c.requires.border)

pub new-requires-2-clause-each : goal.new-requires-2-clause-each
new-requires-2-clause-each c =
    let s = c.args.store.now in
    let ids = ids-from s c.args.aux.items c.deref.result.now _ c.ascending-ids.result.items c.requires.stored c.ascending-ids.ensures.ascending c.ascending-ids.ensures.same c.in_ok-ids_with.ensures c.deref.ensures.value in
    let is = taken-from s c.args.aux.items c.deref-2.result.now c.ascending-ids.result.items c.in_ok-clauses.clauses.items c.requires.stored c.in_ok-clauses.ensures c.deref-2.ensures.value ids in
    ap length ids ∙ length-map (chosen (touches c.args.aux.items) s.live) (λ p. p.id) ∙ sym (length-map (chosen (touches c.args.aux.items) s.live) (λ p. p.constraint)) ∙ sym (ap length is) ∙ ap (λ (g : Gathered). length g.taken) (sym c.new.ensures)

pub returns-clause-taken : goal.returns-clause-taken
returns-clause-taken c =
    let s = c.args.store.now in
    let ids = ids-from s c.args.aux.items c.deref.result.now _ c.ascending-ids.result.items c.requires.stored c.ascending-ids.ensures.ascending c.ascending-ids.ensures.same c.in_ok-ids_with.ensures c.deref.ensures.value in
    let is = taken-from s c.args.aux.items c.deref-2.result.now c.ascending-ids.result.items c.in_ok-clauses.clauses.items c.requires.stored c.in_ok-clauses.ensures c.deref-2.ensures.value ids in
    ap (λ (g : Guessed). g.group.taken) c.new-2.ensures ∙ ap (λ (g : Gathered). g.taken) c.new.ensures ∙ is

pub returns-clause-ids : goal.returns-clause-ids
returns-clause-ids c =
    let s = c.args.store.now in
    let ids = ids-from s c.args.aux.items c.deref.result.now _ c.ascending-ids.result.items c.requires.stored c.ascending-ids.ensures.ascending c.ascending-ids.ensures.same c.in_ok-ids_with.ensures c.deref.ensures.value in
    let is = taken-from s c.args.aux.items c.deref-2.result.now c.ascending-ids.result.items c.in_ok-clauses.clauses.items c.requires.stored c.in_ok-clauses.ensures c.deref-2.ensures.value ids in
    ap (λ (g : Guessed). g.ids) c.new-2.ensures ∙ ids
