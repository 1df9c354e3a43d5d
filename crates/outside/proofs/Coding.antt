-- Spans and the roles that tell them.
use Rattle.std.proofs.Common.{◌≡◌, ℕ, zero, suc, ◌+◌, ◌≤◌, ◌∷◌, [], ◌++◌, List, cond, Some, None, take, drop, length, refl, sym, ap, ◌∙◌, arith, append_assoc, length-append}
use Rattle.std.specs.Prelude.{replicate, count_by, slice_get}
use Rattle.std.proofs.lemmas.List.{append-nil, length-replicate, take_all}
use Rattle.std.proofs.lemmas.List.Sums.{sum_by-cons}
use Rattle.outside.specs.Roles.{roles_of_span, roles_of, cost_of, longer, spans_in, is_end}
use Rattle.outside.specs.Spans.{sum_of}
use Rattle.outside.proofs.Spans.{sum_of-append}
use Rattle.outside.specs.declared.roles.Span.{Span}
use Rattle.outside.specs.declared.roles.Role.{Role}
use Rattle.outside.specs.declared.roles.Role.TheVariants.{Name, Picture, End}

span-is : (n m b c : ℕ) → n ≡ m → b ≡ c → ◌≡◌ {A = Span} (record { name = n; bytes = b }) (record { name = m; bytes = c })
span-is n m b c p q = λ i. record { name = p i; bytes = q i }

of_picture : (b : ℕ) (rs : List Role) → spans_in ((replicate b Picture ++ End ∷ []) ++ rs) ≡ record { name = 0; bytes = b } ∷ spans_in rs
of_picture zero rs = refl
of_picture (suc b) rs = ap (longer 0 1) (of_picture b rs) ∙ ap (λ s. s ∷ spans_in rs) (span-is (0 + 0) 0 (b + 1) (suc b) (omega arith) (omega arith))

of_span : (n b : ℕ) (rs : List Role) → spans_in ((replicate n Name ++ (replicate b Picture ++ End ∷ [])) ++ rs) ≡ record { name = n; bytes = b } ∷ spans_in rs
of_span zero b rs = of_picture b rs
of_span (suc n) b rs = ap (longer 1 0) (of_span n b rs) ∙ ap (λ s. s ∷ spans_in rs) (span-is (n + 1) (suc n) (b + 0) b (omega arith) (omega arith))

-- the roles of spans tell these spans
spans_in-roles_of : (ss : List Span) → spans_in (roles_of ss) ≡ ss
spans_in-roles_of [] = refl
spans_in-roles_of (s ∷ ss) = of_span s.name s.bytes (roles_of ss) ∙ ap (λ xs. s ∷ xs) (spans_in-roles_of ss)

roles_of-append : (ss : List Span) (s : Span) → roles_of (ss ++ s ∷ []) ≡ roles_of ss ++ roles_of_span s
roles_of-append [] s = append-nil (roles_of_span s)
roles_of-append (t ∷ ss) s = ap (λ rs. roles_of_span t ++ rs) (roles_of-append ss s) ∙ sym (append_assoc (roles_of_span t) (roles_of ss) (roles_of_span s))

-- one more span
pub spans_in-push : (rs new : List Role) (s : Span) → rs ≡ roles_of (spans_in rs) → new ≡ rs ++ roles_of_span s → spans_in new ≡ spans_in rs ++ s ∷ []
spans_in-push rs new s whole is =
    ap spans_in (is ∙ ap (λ xs. xs ++ roles_of_span s) whole ∙ sym (roles_of-append (spans_in rs) s)) ∙ spans_in-roles_of (spans_in rs ++ s ∷ [])

pub whole-push : (rs new : List Role) (s : Span) → rs ≡ roles_of (spans_in rs) → new ≡ rs ++ roles_of_span s → new ≡ roles_of (spans_in new)
whole-push rs new s whole is =
    is ∙ ap (λ xs. xs ++ roles_of_span s) whole ∙ sym (roles_of-append (spans_in rs) s) ∙ ap roles_of (sym (spans_in-push rs new s whole is))

pub length-roles_of_span : (s : Span) → length (roles_of_span s) ≡ cost_of s
length-roles_of_span s =
    omega (arith, length-append (replicate s.name Name) (replicate s.bytes Picture ++ End ∷ []), length-append (replicate s.bytes Picture) (End ∷ []), length-replicate {A = Role} s.name Name, length-replicate {A = Role} s.bytes Picture)

length-longer : (n b : ℕ) (ss : List Span) → length (longer n b ss) ≡ length ss
length-longer n b [] = refl
length-longer n b (s ∷ ss) = refl

-- each frame has one byte at its end
pub ends_count_spans : (rs : List Role) → length (spans_in rs) ≡ count_by is_end rs
ends_count_spans [] = refl
ends_count_spans (Name ∷ rs) = omega (arith, sum_by-cons (λ r. cond (is_end r) 1 0) Name rs, length-longer 1 0 (spans_in rs), ends_count_spans rs)
ends_count_spans (Picture ∷ rs) = omega (arith, sum_by-cons (λ r. cond (is_end r) 1 0) Picture rs, length-longer 0 1 (spans_in rs), ends_count_spans rs)
ends_count_spans (End ∷ rs) = omega (arith, sum_by-cons (λ r. cond (is_end r) 1 0) End rs, ends_count_spans rs)

-- bytes that were seen before those of the rest
pub longer-name : (n b : ℕ) (ss : List Span) → longer n b (longer 1 0 ss) ≡ longer (n + 1) b ss
longer-name n b [] = refl
longer-name n b (s ∷ ss) = ap (λ t. t ∷ ss) (span-is (s.name + 1 + n) (s.name + (n + 1)) (s.bytes + 0 + b) (s.bytes + b) (omega arith) (omega arith))

pub longer-picture : (n b : ℕ) (ss : List Span) → longer n b (longer 0 1 ss) ≡ longer n (b + 1) ss
longer-picture n b [] = refl
longer-picture n b (s ∷ ss) = ap (λ t. t ∷ ss) (span-is (s.name + 0 + n) (s.name + n) (s.bytes + 1 + b) (s.bytes + (b + 1)) (omega arith) (omega arith))

pub longer-none : (ss : List Span) → longer 0 0 ss ≡ ss
longer-none [] = refl
longer-none (s ∷ ss) = ap (λ t. t ∷ ss) (span-is (s.name + 0) s.name (s.bytes + 0) s.bytes (omega arith) (omega arith))

-- ---- a look-up, role by role: k spans lie before, and n and b bytes of the next were seen
pub step-name : (S : List Span) (rs rest : List Role) (k n b : ℕ) → drop k S ≡ longer n b (spans_in rs) → rs ≡ Name ∷ rest → drop k S ≡ longer (n + 1) b (spans_in rest)
step-name S rs rest k n b held is = held ∙ ap (λ xs. longer n b (spans_in xs)) is ∙ longer-name n b (spans_in rest)

pub step-picture : (S : List Span) (rs rest : List Role) (k n b : ℕ) → drop k S ≡ longer n b (spans_in rs) → rs ≡ Picture ∷ rest → drop k S ≡ longer n (b + 1) (spans_in rest)
step-picture S rs rest k n b held is = held ∙ ap (λ xs. longer n b (spans_in xs)) is ∙ longer-picture n b (spans_in rest)

-- what is known where the kth span comes next
pub record IsNext (S rest : List Span) (k : ℕ) (s : Span) : Type 0 where
  pub found : slice_get S k ≡ Some s
  pub behind : drop (suc k) S ≡ rest
  pub taken : take (suc k) S ≡ take k S ++ s ∷ []

next_at : (S rest : List Span) (k : ℕ) (s : Span) → drop k S ≡ s ∷ rest → IsNext S rest k s
next_at [] rest zero s is = absurd (cc is)
next_at (t ∷ ts) rest zero s is =
    let first : t ≡ s = cc in
    let others : ts ≡ rest = cc in
    record { found = ap (λ x. Some x) first; behind = others; taken = ap (λ x. x ∷ []) first }
next_at [] rest (suc k) s is = absurd (cc is)
next_at (t ∷ ts) rest (suc k) s is =
    let deeper = next_at ts rest k s is in
    record { found = deeper.found; behind = deeper.behind; taken = ap (λ xs. t ∷ xs) deeper.taken }

pub step-end : (S : List Span) (rs rest : List Role) (k n b : ℕ) → drop k S ≡ longer n b (spans_in rs) → rs ≡ End ∷ rest → IsNext S (longer 0 0 (spans_in rest)) k (record { name = n; bytes = b })
step-end S rs rest k n b held is =
    next_at S (longer 0 0 (spans_in rest)) k (record { name = n; bytes = b })
    (held ∙ ap (λ xs. longer n b (spans_in xs)) is ∙ ap (λ s. s ∷ spans_in rest) (span-is (0 + n) n (0 + b) b (omega arith) (omega arith))
    ∙ ap (λ xs. record { name = n; bytes = b } ∷ xs) (sym (longer-none (spans_in rest))))

-- how much of the store a span more takes
pub sum_of-next : (S rest : List Span) (k : ℕ) (s : Span) → IsNext S rest k s → sum_of (take (suc k) S) ≡ sum_of (take k S) + (s.name + s.bytes)
sum_of-next S rest k s next = ap sum_of next.taken ∙ sum_of-append (take k S) s

-- nothing is found behind the last role
pub none-behind : (S : List Span) (k n : ℕ) → drop k S ≡ [] → k ≤ n → (None ≡ slice_get S n) × (sum_of (take k S) ≡ sum_of (take n S))
none-behind [] zero n is le = (refl, ap sum_of (sym (take_all n [] (omega arith))))
none-behind [] (suc k) n is le = (refl, ap sum_of (sym (take_all n [] (omega arith))))
none-behind (t ∷ ts) zero n is le = absurd (cc is)
none-behind (t ∷ ts) (suc k) zero is le = absurd (omega arith)
none-behind (t ∷ ts) (suc k) (suc n) is le =
    let deeper = none-behind ts k n is (omega arith) in
    (deeper.0, ap (λ m. t.name + t.bytes + m) deeper.1)

pub past_end : (S : List Span) (n : ℕ) → None ≡ slice_get S n → length S ≤ n
past_end [] n is = omega arith
past_end (s ∷ S) zero is = absurd (cc is)
past_end (s ∷ S) (suc n) is = omega (arith, past_end S n is)

-- no more spans than roles
pub spans_le : (rs : List Role) → length (spans_in rs) ≤ length rs
spans_le [] = omega arith
spans_le (Name ∷ rs) = omega (arith, length-longer 1 0 (spans_in rs), spans_le rs)
spans_le (Picture ∷ rs) = omega (arith, length-longer 0 1 (spans_in rs), spans_le rs)
spans_le (End ∷ rs) = omega (arith, spans_le rs)
