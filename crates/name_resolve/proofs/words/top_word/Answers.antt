use Rattle.std.proofs.Common.{rules, refl, Some, codes, arith}
use Rattle.name_resolve.specs.Words.{top_word}
use Rattle.name_resolve.specs.declared.words.TopWord.TheVariants as word
use Rattle.name_resolve.proofs.WordLemmas.{is_word}
use Rattle.name_resolve.proofs.words.top_word.Goals as goal

pub returns-in-define : goal.returns-in-define
returns-in-define c = is_word top_word c.args.name.now (codes "define") (Some word.Define) refl (omega arith) (search rules)
