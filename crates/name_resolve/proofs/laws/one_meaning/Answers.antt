use Rattle.name_resolve.proofs.MeaningLaws.{means_one_program, has_one_refusal, means_unrefused}
use Rattle.name_resolve.proofs.laws.one_meaning.Goals as goal

pub returns : goal.returns
returns c = record { meaning = means_one_program; refusal = has_one_refusal; either = means_unrefused }
