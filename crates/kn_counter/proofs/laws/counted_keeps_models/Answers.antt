use Rattle.kn_counter.proofs.Models.{model-extended, model-cut}
use Rattle.kn_counter.proofs.laws.counted_keeps_models.Goals as goal

pub returns : goal.returns
returns c = record {
  extended = λ f values fit h. model-extended f fit values h;
  cut = λ f values fit h. model-cut f fit values h;
}
