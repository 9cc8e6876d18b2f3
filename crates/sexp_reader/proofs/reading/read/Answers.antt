use Rattle.sexp_reader.specs.Forms.{forms_of}
use Rattle.sexp_reader.proofs.Short.{result_short}
use Rattle.sexp_reader.proofs.Weights.{result_within}
use Rattle.sexp_reader.proofs.Whole.{only_it, blame_is, blame_bad}
use Rattle.sexp_reader.proofs.reading.read.Goals as goal

pub returns-in-Some-clause-blame : goal.returns-in-Some-clause-blame
returns-in-Some-clause-blame c = blame_bad c.args.bytes.now c.in-Some.span c.in-Some.ensures

pub returns-clause-only : goal.returns-clause-only
returns-clause-only c = only_it (λ v. forms_of v.items) c.args.bytes.now c.in_default.ensures c.read_tokens.result c.read_tokens.ensures.tokens c.read_tokens.ensures.refused

pub returns-clause-blame : goal.returns-clause-blame
returns-clause-blame c = blame_is (λ v. forms_of v.items) c.args.bytes.now c.in_default.ensures c.read_tokens.result c.read_tokens.ensures.tokens c.read_tokens.ensures.nested c.read_tokens.ensures.refused

pub returns-clause-size : goal.returns-clause-size
returns-clause-size c = result_within (λ v. forms_of v.items) c.read_tokens.result c.args.bytes.now c.read_tokens.ensures.tokens

pub returns-clause-short : goal.returns-clause-short
returns-clause-short c = result_short (λ v. forms_of v.items) c.read_tokens.result c.args.bytes.now c.requires c.read_tokens.ensures.tokens
