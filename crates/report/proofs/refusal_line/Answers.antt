use Rattle.std.proofs.Common.{rules}
use Rattle.reading.specs.Faults.{fault_fields}
use Rattle.report.proofs.Rows.{row_joined}
use Rattle.report.proofs.refusal_line.Goals as goal

pub returns : goal.returns
returns c = let e = row_joined (fault_fields c.args.fault.now) in search rules
