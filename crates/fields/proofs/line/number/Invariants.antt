use Rattle.std.proofs.Common.{◌≡◌, ◌^◌, ◌<◌, drop}
use Rattle.theory.specs.Lists.{all}
use Rattle.fields.specs.Text.{digit, value}
use Rattle.fields.proofs.line.number.Given as goal

abbrev pub invariant-loop-d : goal.invariant-loop-d
invariant-loop-d l =
    (value l.n (drop l.d-index l.text) ≡ value 0 l.text) × (all digit (drop l.d-index l.text) ≡ all digit l.text) × (l.n < 10 ^ l.d-index)
