use Rattle.leaf_laws.proofs.DayTexts.{one-day, one-text}
use Rattle.leaf_laws.proofs.dates.days_and_their_texts_go_together.Goals as goal

pub returns : goal.returns
returns c = record { one_text = one-text; one_day = one-day }
