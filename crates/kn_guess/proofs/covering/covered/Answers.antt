use Rattle.std.proofs.Common.{◌≡◌, ◌≤◌, ◌∙◌, ℕ, List, length, sym, ap, subst}
use Rattle.std.specs.List.{AllByRecursion}
use Rattle.std.specs.List.Sorted.{IsStrictlyIncreasing}
use Rattle.std.proofs.lemmas.List.{length-map}
use Rattle.kn_logic.specs.Literals.{Literal, IsKnown, AreKnown}
use Rattle.kn_logic.specs.Constraints.{Bounded}
use Rattle.kn_logic.specs.Groups.{Gathered, is_among, is_covered}
use Rattle.kn_store.specs.Stores.{Stored, IsStored, constraints_of, ids_of, chosen}
use Rattle.kn_store.proofs.Public.{all-one}
use Rattle.kn_guess.specs.Guesses.{Guessed}
use Rattle.kn_guess.specs.Seen.{found}
use Rattle.kn_guess.specs.Pairing.{covered_ids, IsCoverOf}
use Rattle.kn_guess.proofs.Taken.{found-are}
use Rattle.kn_guess.proofs.Clique.{group-of-cover}
use Rattle.kn_guess.proofs.Covered.{ids-of-cover, all-members}
use Rattle.kn_guess.proofs.covering.covered.Goals as goal

-- what the ids and the clauses are, from what the calls say
ids-from : (s : Stored) (border asked : List Literal) (all ids : List ℕ) → IsStored s → asked ≡ border → ((skipped : ℕ) × (all ≡ covered_ids s.live asked skipped asked)) → IsStrictlyIncreasing ids → ((x : ℕ) → is_among ids x ≡ is_among all x)
    → ids ≡ ids_of (chosen (is_covered border) s.live)
ids-from s border asked all ids stored was is up same = ids-of-cover s border is.0 all ids stored (is.1 ∙ ap (λ z. covered_ids s.live z is.0 z) was) up same

taken-from : (s : Stored) (border : List Literal) (asked ids : List ℕ) (taken : List Bounded) → IsStored s → taken ≡ found s.live asked → asked ≡ ids → ids ≡ ids_of (chosen (is_covered border) s.live) → taken ≡ constraints_of (chosen (is_covered border) s.live)
taken-from s border asked ids taken stored is was e = is ∙ ap (found s.live) (was ∙ e) ∙ found-are s (is_covered border) stored

counted : (vars : ℕ) (lits : List Literal) → AreKnown vars lits → AllByRecursion (λ l. 1 ≤ l.variable) lits
counted vars lits known = all-one (IsKnown vars) (λ l. 1 ≤ l.variable) (λ l k. k.0) lits known

pub ascending_literals-requires-clause-counted : goal.ascending_literals-requires-clause-counted
ascending_literals-requires-clause-counted c = counted c.args.store.now.vars c.args.group.now c.requires.known

pub covered_ids-requires : goal.covered_ids-requires
covered_ids-requires c = subst (AreKnown c.args.store.now.vars) (sym c.deref.ensures.value)
    (all-members (IsKnown c.args.store.now.vars) c.args.group.now c.in_ok-border.border.items c.in_ok-border.ensures.same c.requires.known)

pub new-requires-2 : goal.new-requires-2
new-requires-2 c =
    let s = c.args.store.now in
    let border = c.in_ok-border.border.items in
    let ids = ids-from s border c.deref.result.now c.in_ok-covered_ids.field-0.items c.ascending-ids.result.items c.requires.stored c.deref.ensures.value c.in_ok-covered_ids.ensures c.ascending-ids.ensures.ascending c.ascending-ids.ensures.same in
    let taken = taken-from s border c.deref-2.result.now c.ascending-ids.result.items c.in_ok-clauses.clauses.items c.requires.stored c.in_ok-clauses.ensures c.deref-2.ensures.value ids in
    group-of-cover (record { aux = c.new.result.items; taken = c.in_ok-clauses.clauses.items; border = border }) s.live c.new.ensures.items c.in_ok-border.ensures.ascends taken

pub new-requires-3-clause-each : goal.new-requires-3-clause-each
new-requires-3-clause-each c =
    let s = c.args.store.now in
    let border = c.in_ok-border.border.items in
    let ids = ids-from s border c.deref.result.now c.in_ok-covered_ids.field-0.items c.ascending-ids.result.items c.requires.stored c.deref.ensures.value c.in_ok-covered_ids.ensures c.ascending-ids.ensures.ascending c.ascending-ids.ensures.same in
    let taken = taken-from s border c.deref-2.result.now c.ascending-ids.result.items c.in_ok-clauses.clauses.items c.requires.stored c.in_ok-clauses.ensures c.deref-2.ensures.value ids in
    ap length ids ∙ length-map (chosen (is_covered border) s.live) (λ p. p.id) ∙ sym (length-map (chosen (is_covered border) s.live) (λ p. p.constraint)) ∙ sym (ap length taken) ∙ ap (λ (g : Gathered). length g.taken) (sym c.new-2.ensures)

cover-is : (s : Stored) (group : List Literal) (g : Guessed) (k : Gathered) (aux ids : List ℕ) (taken : List Bounded) (border : List Literal) → g ≡ record { group = k; ids = ids } → k ≡ record { aux = aux; taken = taken; border = border }
    → IsCoverOf s group (record { aux = aux; taken = taken; border = border }) ids → IsCoverOf s group g.group g.ids
cover-is s group g k aux ids taken border e f is =
    subst (λ (z : Guessed). IsCoverOf s group z.group z.ids) (sym e) (subst (λ (z : Gathered). IsCoverOf s group z ids) (sym f) is)

pub returns : goal.returns
returns c =
    let s = c.args.store.now in
    let border = c.in_ok-border.border.items in
    let ids = ids-from s border c.deref.result.now c.in_ok-covered_ids.field-0.items c.ascending-ids.result.items c.requires.stored c.deref.ensures.value c.in_ok-covered_ids.ensures c.ascending-ids.ensures.ascending c.ascending-ids.ensures.same in
    let taken = taken-from s border c.deref-2.result.now c.ascending-ids.result.items c.in_ok-clauses.clauses.items c.requires.stored c.in_ok-clauses.ensures c.deref-2.ensures.value ids in
    cover-is s c.args.group.now c.new-3.result c.new-2.result c.new.result.items c.ascending-ids.result.items c.in_ok-clauses.clauses.items border c.new-3.ensures c.new-2.ensures
    (record {
      aux = c.new.ensures.items;
      ascends = c.in_ok-border.ensures.ascends;
      members = c.in_ok-border.ensures.same;
      long = c.in_ok-border.ensures.long;
      taken = taken;
      ids_are = ids;
    })
