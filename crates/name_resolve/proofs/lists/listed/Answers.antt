use Rattle.name_resolve.proofs.ListLemmas.{listed_seq}
use Rattle.name_resolve.proofs.lists.listed.Goals as goal

pub returns-in-Seq : goal.returns-in-Seq
returns-in-Seq c = listed_seq c.args.form.now c.in-Seq.items c.as_slice.result.now c.in-Seq.is c.as_slice.ensures
