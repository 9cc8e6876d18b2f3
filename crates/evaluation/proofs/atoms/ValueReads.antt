-- The machine's values are read as atoms of erased terms, and data as arrays of them.
use Rattle.std.proofs.Common.{List}
use Rattle.machine_table.specs.Plain.{plain_rules}
use Rattle.machine_table.specs.ValueRules.{value_rules}
use Rattle.lowering.specs.Lower.{Body}
use Rattle.evaluation.specs.Inputs.{data_array}
use Rattle.evaluation.specs.Lawful.{Reads}
use Rattle.evaluation.specs.PlainValues.{plain_cell, plain_fits}
use Rattle.evaluation.specs.Reading.{Reading}
use Rattle.evaluation.specs.Values.{plain_of, value_cell}
use Rattle.evaluation.proofs.atoms.Inputs.{data_read, data_fits}
use Rattle.evaluation.proofs.atoms.PlainReads.{plain_reads}
use Rattle.evaluation.proofs.atoms.Through.{reads_through}
use Rattle.evaluation.proofs.atoms.ValuePlain.{values_through}

-- the machine's values are read by their parts, as plain atoms are
values_read : (bodies : List Body) → Reads bodies value_rules (value_cell bodies) (λ v. plain_fits bodies (plain_of v))
values_read bodies = reads_through bodies plain_of value_rules plain_rules values_through (plain_cell bodies) (plain_fits bodies) (plain_reads bodies)

-- and so are arrays of them, data included
pub values_reading : Reading value_rules value_cell (data_array value_rules)
values_reading =
    record {
      fits = λ bodies v. plain_fits bodies (plain_of v);
      reads = values_read;
      data_is = λ bodies d. data_read bodies value_rules (value_cell bodies) (λ v. plain_fits bodies (plain_of v)) (values_read bodies) d;
      data_fits = λ bodies t d h. data_fits bodies value_rules (value_cell bodies) (λ v. plain_fits bodies (plain_of v)) (values_read bodies) t d h;
    }
