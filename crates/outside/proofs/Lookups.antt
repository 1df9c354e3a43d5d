-- Look-ups in what a library in memory holds.
use Rattle.std.proofs.Common.{◌≡◌, ℕ, ◌∷◌, [], List, Some, None, length, true, false, cond, sym, ap, ◌∙◌, arith}
use Rattle.std.specs.FinMap.{get, get-insert, get-empty}
use Rattle.std.specs.Str.{bytes_eq}
use Rattle.std.specs.String.{string_bytes}
use Rattle.std.proofs.lemmas.Cmp.{nat_list_cmp_total, nat_list_eq_equiv}
use Rattle.std.proofs.lemmas.Map.Text.{is_eq-slice_cmp}
use Rattle.outside.specs.FilesFrom.{files_from}
use Rattle.outside.specs.declared.memory_library.File.{File}

pub get-files_from : (f : File) (fs : List File) (q : List ℕ) → get (files_from (f ∷ fs)) q ≡ cond (bytes_eq q (string_bytes f.name)) (Some f.bytes.items) (get (files_from fs) q)
get-files_from f fs q =
    get-insert nat_list_cmp_total (files_from fs) (string_bytes f.name) f.bytes.items q
    ∙ ap (λ b. cond b (Some f.bytes.items) (get (files_from fs) q)) (is_eq-slice_cmp q (string_bytes f.name))

pub get-same : (f : File) (fs : List File) (q : List ℕ) → true ≡ bytes_eq (string_bytes f.name) q → get (files_from (f ∷ fs)) q ≡ Some f.bytes.items
get-same f fs q e =
    get-files_from f fs q
    ∙ ap (λ b. cond b (Some f.bytes.items) (get (files_from fs) q)) (nat_list_eq_equiv.symm q (string_bytes f.name) ∙ sym e)

pub get-other : (f : File) (fs : List File) (q : List ℕ) → false ≡ bytes_eq (string_bytes f.name) q → get (files_from (f ∷ fs)) q ≡ get (files_from fs) q
get-other f fs q e =
    get-files_from f fs q
    ∙ ap (λ b. cond b (Some f.bytes.items) (get (files_from fs) q)) (nat_list_eq_equiv.symm q (string_bytes f.name) ∙ sym e)

pub get-none : (fs : List File) (q : List ℕ) → length fs ≡ 0 → get (files_from fs) q ≡ None
get-none [] q e = get-empty _ q
get-none (f ∷ fs) q e = absurd (omega arith)
