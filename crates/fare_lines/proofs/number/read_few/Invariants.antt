use Rattle.std.proofs.Common.{◌≡◌, ◌≤◌, take}
use Rattle.std.specs.Str.Parse.{AllDigits, digits_value}
use Rattle.fare_lines.proofs.number.read_few.Given as goal

abbrev pub invariant-loop-byte : goal.invariant-loop-byte
invariant-loop-byte l = record {
  at : l.count ≡ l.byte-index;
  few : l.count ≤ 19;
  digits : AllDigits 10 (take l.byte-index l.text);
  is : l.number ≡ digits_value 10 (take l.byte-index l.text);
}
