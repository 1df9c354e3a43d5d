-- Worked values of the definitions.
use Rattle.std.specs.Prelude.{◌≡◌, ◌-◌, ◌^◌, [], ◌∷◌, true, false, Some, None, refl}
use Rattle.std.proofs.Common.{inl, inr}
use Rattle.outside.specs.Causes.{next_count}
use Rattle.outside.specs.CallLog.{no_calls, fails_next, called, naming}
use Rattle.outside.specs.Shelf.{answer_of, bytes_of}
use Rattle.outside.specs.Sink.{Written, begun, with_bytes, with_end}
use Rattle.outside.specs.Frames.{Picture, whole, IsFront}
use Rattle.outside.specs.NoteLines.{IsPartOf}
use Rattle.outside.specs.declared.library.Fetch.TheVariants.{Whole, Missing, TooLong, Failed}

-- a count stops at its last value
last_count : next_count (2 ^ 64 - 1) ≡ 2 ^ 64 - 1
last_count = refl

-- calls are counted from 1: the one named second fails second
first_passes : fails_next (naming 2 no_calls) ≡ false
first_passes = refl

second_fails : fails_next (called true (naming 2 no_calls)) ≡ true
second_fails = refl

none_named : fails_next (naming 0 no_calls) ≡ false
none_named = refl

-- three bytes are whole under a limit of 3, and too long under one of 2
three_whole : answer_of false 3 (Some (1 ∷ 2 ∷ 3 ∷ [])) ≡ Whole
three_whole = refl

three_too_long : answer_of false 2 (Some (1 ∷ 2 ∷ 3 ∷ [])) ≡ TooLong
three_too_long = refl

one_more_than_limit : bytes_of TooLong 1 (Some (1 ∷ 2 ∷ 3 ∷ [])) ≡ 1 ∷ 2 ∷ []
one_more_than_limit = refl

nothing_held : answer_of false 3 None ≡ Missing
nothing_held = refl

named_to_fail : answer_of true 3 None ≡ Failed
named_to_fail = refl

-- a frame `a` of the bytes 1, 2, from its begin to its end, behind another
other : Written
other = record { name = 98 ∷ []; bytes = 7 ∷ []; ended = true }

abbrev a : Picture
a = record { name = 97 ∷ []; bytes = 1 ∷ 2 ∷ [] }

a_written : with_end (with_bytes (2 ∷ []) (with_bytes (1 ∷ []) (other ∷ begun (97 ∷ []) ∷ []))) ≡ other ∷ whole a ∷ []
a_written = refl

-- prefixes of the frames a, a: nothing, a with its first byte, one a, one a and an open one
nothing_left : IsFront (a ∷ a ∷ []) []
nothing_left = inl tt

one_byte_left : IsFront (a ∷ a ∷ []) (record { name = 97 ∷ []; bytes = 1 ∷ []; ended = false } ∷ [])
one_byte_left = inl (refl, (1, refl))

one_left : IsFront (a ∷ a ∷ []) (whole a ∷ [])
one_left = inr ([], refl, inl tt)

one_and_open_left : IsFront (a ∷ a ∷ []) (whole a ∷ record { name = 97 ∷ []; bytes = 1 ∷ 2 ∷ []; ended = false } ∷ [])
one_and_open_left = inr (record { name = 97 ∷ []; bytes = 1 ∷ 2 ∷ []; ended = false } ∷ [], refl, inl (refl, (2, refl)))

-- of two lines the second alone was said
second_said : IsPartOf ((2 ∷ []) ∷ []) ((1 ∷ []) ∷ (2 ∷ []) ∷ [])
second_said = inl (inr ([], refl, refl))
