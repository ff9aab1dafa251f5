use Rattle.std.proofs.Common.{◌≡◌, ◌++◌, ◌∷◌, [], List, length, map, ap, subst, ◌∙◌, rules}
use Rattle.kn_rules.specs.declared.given.Given.{Given}
use Rattle.kn_rules.specs.declared.slot.Slot.{Slot}
use Rattle.kn_rules.specs.States.{Defined}
use Rattle.kn_rules.specs.Steps.{by_definition, definition_clauses}
use Rattle.kn_rules.specs.Entries.{Entered, derived, given_of, variable_of}
use Rattle.kn_rules.proofs.Entering.{with_one_more, defined-given}
use Rattle.kn_rules.proofs.entries.Entries.define.Goals as goal

pub returns-clause-ok : goal.returns-clause-ok
returns-clause-ok c =
    let d = c.self.inside.definitions in
    let more = with_one_more d c.args.d.now in
    let defined : c.push.new.self ≡ more = c.in_ok-push.ensures.ok in
    let slots : c.push_derived.new.slots.items ≡ c.self.inside.slots.items ++ derived c.len-number.result = search rules in
    let number : c.len-number.result ≡ length d.list = c.len-number.ensures in
    let same : record { defined = c.push.new.self; given = map (given_of c.push.new.self) c.push_derived.new.slots.items } ≡ record { defined = more; given = map (given_of d) c.self.inside.slots.items ++ map by_definition (definition_clauses (variable_of d.base (length d.list)) c.args.d.now.test c.args.d.now.high c.args.d.now.low) } =
    ap (λ (x : Defined). record { defined = x; given = map (given_of x) c.push_derived.new.slots.items }) defined
    ∙ ap (λ (s : List Slot). record { defined = more; given = map (given_of more) s }) slots
    ∙ ap (λ (g : List Given). record { defined = more; given = g }) (defined-given d c.args.d.now c.self.inside.slots.items c.len-number.result number c.self.invariant) in
    subst (λ (e : Entered). record { defined = c.push.new.self; given = map (given_of c.push.new.self) c.push_derived.new.slots.items } ≡ record { defined = record e.defined { list = e.defined.list ++ c.args.d.now ∷ [] }; given = e.given ++ map by_definition (definition_clauses (variable_of e.defined.base (length e.defined.list)) c.args.d.now.test c.args.d.now.high c.args.d.now.low) }) c.self.view_is same
