use Rattle.ucl_json.proofs.ScreenLength.{line_short, screen_short}
use Rattle.ucl_c.proofs.theorems.screens_are_short.Goals as goal

pub returns : goal.returns
returns c = record {
  text = λ profile board roster group words is. screen_short profile board roster words is group;
  line = line_short;
}
