use Rattle.std.proofs.Common.{refl, arith}
use Rattle.remora_driver.specs.Sources.{too_long}
use Rattle.remora_driver.proofs.executing.read_code.Goals as goal

pub returns-then-text-gt-LONGEST_CODE : goal.returns-then-text-gt-LONGEST_CODE
returns-then-text-gt-LONGEST_CODE c = too_long (let l = c.if-text-gt-LONGEST_CODE.true in omega (arith, l)) refl refl
