use Rattle.std.proofs.Common.{◌≡◌, ◌≤◌, ◌<◌, ◌+◌, ◌^◌, ◌++◌, ◌∷◌, [], ◌∙◌, ℕ, List, length, take, get_or, subst, sym, ap, arith, append_assoc, append-nil}
use Rattle.std.proofs.lemmas.List.{take_more, take_all}
use Rattle.fixed_math.specs.Digits.{IsDigitsOf}
use Rattle.fixed_math.proofs.digit_rows.add_all.Goals as goal

next_taken : (ds xs : List ℕ) (i : ℕ) → i < length xs → (ds ++ take i xs) ++ (get_or xs i 0 ∷ []) ≡ ds ++ take (i + 1) xs
next_taken ds xs i h = append_assoc ds (take i xs) (get_or xs i 0 ∷ []) ∙ ap (λ ys. ds ++ ys) (sym (take_more xs i 0 h))

next_dropped : (a b d i : ℕ) → a ≤ b + 1 → b ≤ d + i → a ≤ d + (i + 1)
next_dropped a b d i h k = omega arith

room_left : (a d i n : ℕ) → a ≤ d + i → i < n → d + n < 2 ^ 64 → a + 1 < 2 ^ 64
room_left a d i n h k l = omega arith

all_dropped : (a d i n : ℕ) → a ≤ d + i → i ≤ n → a ≤ d + n
all_dropped a d i n h k = omega arith

pub loop-byte-init : goal.loop-byte-init
loop-byte-init c = record {
  more = λ ds h. subst (λ xs. IsDigitsOf xs c.args.digits) (sym (append-nil ds)) h;
  dropped = omega arith;
}

pub add-all-requires-clause-digit : goal.add-all-requires-clause-digit
add-all-requires-clause-digit c = c.requires.each c.loop-byte.byte-index c.loop-byte-test.true

pub add-all-requires-clause-room : goal.add-all-requires-clause-room
add-all-requires-clause-room c = room_left c.loop-byte.all.dropped c.args.digits.dropped c.loop-byte.byte-index (length c.args.bytes.now) c.loop-byte.invariant.dropped c.loop-byte-test.true c.requires.room

pub loop-byte-preserved : goal.loop-byte-preserved
loop-byte-preserved c = record {
  more = λ ds h. subst (λ xs. IsDigitsOf xs c.add-all.result) (next_taken ds c.args.bytes.now c.loop-byte.byte-index c.loop-byte-test.true)
      (c.add-all.ensures.more (ds ++ take c.loop-byte.byte-index c.args.bytes.now) (c.loop-byte.invariant.more ds h));
  dropped = next_dropped c.add-all.result.dropped c.loop-byte.all.dropped c.args.digits.dropped c.loop-byte.byte-index c.add-all.ensures.dropped c.loop-byte.invariant.dropped;
}

pub returns-clause-more : goal.returns-clause-more
returns-clause-more c ds h =
    subst (λ xs. IsDigitsOf (ds ++ xs) c.loop-byte.all) (take_all c.loop-byte.byte-index c.args.bytes.now c.loop-byte-test.false) (c.loop-byte.invariant.more ds h)

pub returns-clause-dropped : goal.returns-clause-dropped
returns-clause-dropped c =
    all_dropped c.loop-byte.all.dropped c.args.digits.dropped c.loop-byte.byte-index (length c.args.bytes.now) c.loop-byte.invariant.dropped c.loop-byte.auto.byte-index-end
