use Rattle.std.proofs.Common.{◌≡◌, ◌<◌, ◌-◌, ◌++◌, string_bytes}
use Rattle.account_text.specs.Decimals.{places}
use Rattle.account_text.proofs.decimal.push_places.Given as goal

abbrev pub invariant-loop-place : goal.invariant-loop-place
invariant-loop-place l = record {
  below : l.left < l.ones;
  digits : string_bytes l.text ++ places (32 - l.place) l.ones l.left ≡ string_bytes l.initial.text ++ places 32 l.ones l.rest;
}
