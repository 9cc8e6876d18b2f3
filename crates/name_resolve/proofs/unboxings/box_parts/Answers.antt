use Rattle.sexp_reader.specs.Forms.{form_of}
use Rattle.name_resolve.proofs.BoxLemmas.{hidden_none, hidden_parts, last_part, parts_size}
use Rattle.name_resolve.proofs.unboxings.box_parts.Goals as goal

pub returns-then-count-lt3-clause-names : goal.returns-then-count-lt3-clause-names
returns-then-count-lt3-clause-names c = hidden_none (form_of c.args.list.now) c.in_ok-items.items.now c.in_ok-items.ensures c.if-count-lt3.true

pub returns-clause-names : goal.returns-clause-names
returns-clause-names c =
    hidden_parts (form_of c.args.list.now) c.in_ok-items.items.now c.in_ok-items.ensures c.index-items-count.result c.index-items-count-2.result c.if-count-lt3.false c.index-items-count.is c.index-items-count-2.is

pub returns-clause-last : goal.returns-clause-last
returns-clause-last c =
    last_part (form_of c.args.list.now) c.in_ok-items.items.now c.in_ok-items.ensures c.index-items-count.result c.index-items-count-2.result c.if-count-lt3.false c.index-items-count.is c.index-items-count-2.is

pub returns-clause-size : goal.returns-clause-size
returns-clause-size c =
    parts_size (form_of c.args.list.now) c.in_ok-items.items.now c.in_ok-items.ensures c.index-items-count.result c.index-items-count-2.result c.if-count-lt3.false c.index-items-count.is c.index-items-count-2.is
