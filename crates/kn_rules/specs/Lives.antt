-- What a constraint says, wherever it stands.
use Rattle.kn_logic.specs.Constraints.{Bounded}
use Rattle.kn_rules.specs.declared.live.Source.{Source}
use Rattle.kn_rules.specs.declared.live.Source.TheVariants as source
use Rattle.kn_rules.specs.Entries.{bounded_of}

abbrev pub standing : Source → Bounded
standing (source.Kept c) = c.now
standing (source.Made made) = bounded_of made
