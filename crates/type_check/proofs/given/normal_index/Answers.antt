use Rattle.core_syntax.specs.declared.index.Sort.TheVariants as sort
use Rattle.core_syntax.specs.Refine.{index_of}
use Rattle.core_syntax.specs.Norm.{measure_at}
use Rattle.type_check.proofs.exits.GivenLemmas.{dim_measured, word_measured, word_given, same_either}
use Rattle.type_check.proofs.given.normal_index.Goals as goal

pub returns-in-Err : goal.returns-in-Err
returns-in-Err c =
    c.measured.ensures (measure_at c.args.sort (index_of c.args.i.now))
    (same_either c.args.sort sort.Dim (index_of c.args.i.now) c.in-Err.refusal _ _ c.in-Dim.is c.in-Err.ensures.refused (dim_measured (index_of c.args.i.now) c.in-Err.refusal))

pub returns-in-Ok-word : goal.returns-in-Ok-word
returns-in-Ok-word c = word_given c.args.sort (index_of c.args.i.now) c.in-Ok-word.shape c.in-Shape.is c.in-Ok-word.ensures.ok c.in-Ok-word.ensures.fits

pub returns-in-Err-word : goal.returns-in-Err-word
returns-in-Err-word c =
    c.measured-in-Err-word.ensures (measure_at c.args.sort (index_of c.args.i.now))
    (same_either c.args.sort sort.Shape (index_of c.args.i.now) c.in-Err-word.refusal _ _ c.in-Shape.is c.in-Err-word.ensures.refused (word_measured (index_of c.args.i.now) c.in-Err-word.refusal))
