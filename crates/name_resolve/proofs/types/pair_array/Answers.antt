use Rattle.sexp_reader.specs.Forms.{form_of}
use Rattle.name_resolve.specs.TypeForms.{array_ty}
use Rattle.name_resolve.proofs.ListLemmas.{no_pair}
use Rattle.name_resolve.proofs.Refusals.{is_refused}
use Rattle.name_resolve.proofs.RoomLemmas.{room_less, pair_size}
use Rattle.name_resolve.proofs.types.pair_array.Goals as goal

pub returns-in-None-clause-read : goal.returns-in-None-clause-read
returns-in-None-clause-read c = is_refused _ 7 c.args.pair.now.at _ c.malformed.ensures (no_pair (array_ty c.args.scopes.now) c.args.pair.now c.in-None.ensures)

pub array_ty-requires : goal.array_ty-requires
array_ty-requires c = room_less c.args.scopes.now _ _ c.requires (pair_size (form_of c.args.pair.now) _ c.in-Some.ensures)
