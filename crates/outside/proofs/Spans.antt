-- What a sink in memory has written, after each of its calls.
use Rattle.std.proofs.Common.{◌≡◌, ℕ, ◌+◌, ◌≤◌, ◌<◌, ◌∷◌, [], ◌++◌, List, Some, None, length, take, drop, true, false, refl, sym, ap, ◌∙◌, arith, rules, length-drop}
use Rattle.std.proofs.lemmas.Grind.{common_steps}
use Rattle.std.proofs.lemmas.List.{take-append-le, drop-append-le, take_all, drop-drop, take_more}
use Rattle.std.specs.Prelude.{slice_get}
use Rattle.std.proofs.Common.{zero, suc, get_or}
use Rattle.std.proofs.Math.ListN.{drop_of_length-le}
use Rattle.outside.specs.Sink.{Written, begun, with_bytes, with_end}
use Rattle.std.proofs.Common.{Option, is_some}
use Rattle.outside.specs.Spans.{sum_of, length_of, count_of, frames_in, frame_at, current_in}
use Rattle.outside.specs.declared.roles.Span.{Span}

frame_at-append : (store more : List ℕ) (s : Span) → s.name + s.bytes ≤ length store → frame_at (store ++ more) s ≡ frame_at store s
frame_at-append store more s h =
    let name : take s.name (store ++ more) ≡ take s.name store = take-append-le s.name store more (omega arith) in
    let rest : drop s.name (store ++ more) ≡ drop s.name store ++ more = drop-append-le s.name store more (omega arith) in
    let bytes : take s.bytes (drop s.name store ++ more) ≡ take s.bytes (drop s.name store) =
    take-append-le s.bytes (drop s.name store) more (omega (arith, length-drop s.name store)) in
    cc

pub sum_of-append : (ss : List Span) (s : Span) → sum_of (ss ++ s ∷ []) ≡ sum_of ss + (s.name + s.bytes)
sum_of-append [] s = omega arith
sum_of-append (t ∷ ss) s = omega (arith, sum_of-append ss s)

whole : (name : List ℕ) → ◌≡◌ {A = List Written} (record { name = take (length name) name; bytes = drop (length name) name; ended = false } ∷ []) (begun name ∷ [])
whole name =
    let front : take (length name) name ≡ name = take_all (length name) name (omega arith) in
    let rest : drop (length name) name ≡ [] = drop_of_length-le name (omega arith) in
    cc

pub frames_in-begin : (store name : List ℕ) (ss : List Span) → sum_of ss ≡ length store → frames_in (store ++ name) ss (Some (length name)) ≡ frames_in store ss None ++ begun name ∷ []
frames_in-begin [] name [] h = whole name
frames_in-begin (b ∷ store) name [] h = absurd (omega arith)
frames_in-begin store name (s ∷ ss) h =
    let rest : drop (s.name + s.bytes) (store ++ name) ≡ drop (s.name + s.bytes) store ++ name = drop-append-le (s.name + s.bytes) store name (omega arith) in
    let first = frame_at-append store name s (omega arith) in
    let others = frames_in-begin (drop (s.name + s.bytes) store) name ss (omega (arith, length-drop (s.name + s.bytes) store)) in
    cc

pub frames_in-put : (store more : List ℕ) (ss : List Span) (n : ℕ) → sum_of ss + n ≤ length store → frames_in (store ++ more) ss (Some n) ≡ with_bytes more (frames_in store ss (Some n))
frames_in-put store more [] n h =
    let front = take-append-le n store more (omega arith) in
    let rest = drop-append-le n store more (omega arith) in
    cc
frames_in-put store more (s ∷ []) n h =
    let rest : drop (s.name + s.bytes) (store ++ more) ≡ drop (s.name + s.bytes) store ++ more = drop-append-le (s.name + s.bytes) store more (omega arith) in
    let first = frame_at-append store more s (omega arith) in
    let others = frames_in-put (drop (s.name + s.bytes) store) more [] n (omega (arith, length-drop (s.name + s.bytes) store)) in
    cc
frames_in-put store more (s ∷ t ∷ ss) n h =
    let rest : drop (s.name + s.bytes) (store ++ more) ≡ drop (s.name + s.bytes) store ++ more = drop-append-le (s.name + s.bytes) store more (omega arith) in
    let first = frame_at-append store more s (omega arith) in
    let others = frames_in-put (drop (s.name + s.bytes) store) more (t ∷ ss) n (omega (arith, length-drop (s.name + s.bytes) store)) in
    cc

pub frames_in-end : (store : List ℕ) (ss : List Span) (s : Span) → sum_of ss + (s.name + s.bytes) ≡ length store → frames_in store (ss ++ s ∷ []) None ≡ with_end (frames_in store ss (Some s.name))
frames_in-end store [] s h =
    let all : take s.bytes (drop s.name store) ≡ drop s.name store = take_all s.bytes (drop s.name store) (omega (arith, length-drop s.name store)) in
    cc
frames_in-end store (t ∷ []) s h = ap (λ ws. frame_at store t ∷ ws) (frames_in-end (drop (t.name + t.bytes) store) [] s (omega (arith, length-drop (t.name + t.bytes) store)))
frames_in-end store (t ∷ u ∷ ss) s h = ap (λ ws. frame_at store t ∷ ws) (frames_in-end (drop (t.name + t.bytes) store) (u ∷ ss) s (omega (arith, length-drop (t.name + t.bytes) store)))

nothing_more : (store : List ℕ) → store ++ [] ≡ store
nothing_more store = search (rules, common_steps)

pub frames_in-putting : (store more : List ℕ) (ss : List Span) (current : Option ℕ) → is_some current ≡ true → sum_of ss + length_of current ≤ length store → frames_in (store ++ more) ss current ≡ with_bytes more (frames_in store ss current)
frames_in-putting store more ss None open_is h = absurd (cc open_is)
frames_in-putting store more ss (Some n) open_is h = frames_in-put store more ss n h

-- a put that fails takes nothing
pub frames_in-failing : (store piece : List ℕ) (ss : List Span) (current : Option ℕ) → is_some current ≡ true → sum_of ss + length_of current ≤ length store → (n : ℕ) × (Some (frames_in store ss current) ≡ Some (with_bytes (take n piece) (frames_in store ss current)))
frames_in-failing store piece ss current open_is h =
    (0, ap (λ ws. Some ws) (ap (λ s. frames_in s ss current) (sym (nothing_more store)) ∙ frames_in-putting store [] ss current open_is h))

pub frames_in-begun : (store stored name : List ℕ) (ss : List Span) (current : Option ℕ) → is_some current ≡ false → stored ≡ store ++ name → sum_of ss ≡ length store → frames_in stored ss (Some (length name)) ≡ frames_in store ss current ++ begun name ∷ []
frames_in-begun store stored name ss (Some n) closed e h = absurd (cc closed)
frames_in-begun store stored name ss None closed e h = ap (λ s. frames_in s ss (Some (length name))) e ∙ frames_in-begin store name ss h

-- how many entries there are
pub length-frames_in : (store : List ℕ) (ss : List Span) (current : Option ℕ) → length (frames_in store ss current) ≡ length ss + count_of current
length-frames_in store [] None = refl
length-frames_in store [] (Some n) = refl
length-frames_in store (s ∷ ss) current = omega (arith, length-frames_in (drop (s.name + s.bytes) store) ss current)

-- where the frames of a front of the spans end
pub sum_of-take : (ss : List Span) (n : ℕ) → sum_of (take n ss) ≤ sum_of ss
sum_of-take ss zero = omega arith
sum_of-take [] (suc n) = omega arith
sum_of-take (s ∷ ss) (suc n) = omega (arith, sum_of-take ss n)

-- where the frame behind them ends
pub sum_of-next : (ss : List Span) (n : ℕ) (s : Span) → slice_get ss n ≡ Some s → sum_of (take n ss) + (s.name + s.bytes) ≤ sum_of ss
sum_of-next [] n s is = absurd (cc is)
sum_of-next (t ∷ ss) zero s is =
    let e : t ≡ s = cc in
    let name = ap (λ u. u.name) e in
    let bytes = ap (λ u. u.bytes) e in
    omega (arith, name, bytes)
sum_of-next (t ∷ ss) (suc n) s is = omega (arith, sum_of-next ss n s is)

-- the nth ended frame
pub frames_in-ended : (store : List ℕ) (ss : List Span) (current : Option ℕ) (n : ℕ) (s : Span) → slice_get ss n ≡ Some s → slice_get (frames_in store ss current) n ≡ Some (frame_at (drop (sum_of (take n ss)) store) s)
frames_in-ended store [] current n s is = absurd (cc is)
frames_in-ended store (t ∷ ss) current zero s is = let e : t ≡ s = cc in ap (λ u. Some (frame_at store u)) e
frames_in-ended store (t ∷ ss) current (suc n) s is =
    frames_in-ended (drop (t.name + t.bytes) store) ss current n s is
    ∙ ap (λ b. Some (frame_at b s)) (drop-drop (sum_of (take n ss)) (t.name + t.bytes) store)

-- the open frame behind them all
pub frames_in-open : (store : List ℕ) (ss : List Span) (k : ℕ) (w : Written) → w ∷ [] ≡ current_in (drop (sum_of ss) store) (Some k) → slice_get (frames_in store ss (Some k)) (length ss) ≡ Some w
frames_in-open store [] k w is = ap (λ ws. slice_get ws 0) (sym is)
frames_in-open store (t ∷ ss) k w is =
    frames_in-open (drop (t.name + t.bytes) store) ss k w (is ∙ ap (λ b. current_in b (Some k)) (sym (drop-drop (sum_of ss) (t.name + t.bytes) store)))

-- one more span
pub sum_of-more : (ss : List Span) (i : ℕ) (d : Span) → i < length ss → sum_of (take (i + 1) ss) ≡ sum_of (take i ss) + ((get_or ss i d).name + (get_or ss i d).bytes)
sum_of-more ss i d lt = ap sum_of (take_more ss i d lt) ∙ sum_of-append (take i ss) (get_or ss i d)
