use Rattle.std.proofs.Common.{◌≡◌, ◌+◌, ◌≤◌, take, drop}
use Rattle.outside.specs.Roles.{longer, spans_in}
use Rattle.outside.specs.Spans.{sum_of}
use Rattle.outside.proofs.roles.find.Given as goal

abbrev pub invariant-loop-role : goal.invariant-loop-role
invariant-loop-role l = record {
  rest : drop l.before (spans_in l.roles) ≡ longer l.span.name l.span.bytes (spans_in (drop l.role-index l.roles));
  taken : l.start ≡ sum_of (take l.before (spans_in l.roles));
  below : l.before ≤ l.n;
  counted : l.start + l.span.name + l.span.bytes ≤ l.role-index;
}
