use Rattle.value_text.proofs.texts.Back.{texts_fit}
use Rattle.value_text.proofs.laws.shown_data.Goals as goal

pub returns : goal.returns
returns c = texts_fit
