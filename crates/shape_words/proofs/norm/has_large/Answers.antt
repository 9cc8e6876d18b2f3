use Rattle.core_syntax.specs.Refine.{index_of}
use Rattle.core_syntax.specs.Norm.{norm_word}
use Rattle.shape_words.proofs.LetterLemmas.{large_found_is, large_none_is}
use Rattle.shape_words.proofs.norm.has_large.Goals as goal

pub returns-in-Some : goal.returns-in-Some
returns-in-Some c = large_found_is (norm_word (index_of c.args.i.now)) _ c.in-Some.ensures

pub returns-in-None : goal.returns-in-None
returns-in-None c = large_none_is (norm_word (index_of c.args.i.now)) c.in-None.ensures
