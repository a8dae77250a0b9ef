-- what the code reports a refusal with
use Rattle.reading.specs.Faults as plain
use Rattle.reading.specs.declared.faults.Report.{Report}

abbrev pub told : Report → plain.Report
told r = plain.report r.number r.layer r.field
