-- A span of bytes in the code, as the tally of a run sees it.
use Rattle.profile_laws.specs.Tally.{Span}
use Rattle.access_trace.specs.declared.span.ByteRange.{ByteRange as CodeSpan}

-- what a range of bytes in the code stands for
abbrev pub span_of : CodeSpan → Span
span_of s = record { count = s.count; from = s.from }
