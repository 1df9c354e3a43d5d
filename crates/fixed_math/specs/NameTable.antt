-- What the fields of a table of names hold.
use Rattle.std.specs.Prelude.{ℕ, List, Option, ◌≡◌, ◌<◌, map, take, length, slice_index_or}
use Rattle.std.specs.Ordering.{nat_cmp}
use Rattle.std.specs.Cmp.Lexicographic.{slice_cmp}
use Rattle.std.specs.BTreeMap.{BTreeMap, get_by}
use Rattle.std.specs.Borrow.{Bor}
use Rattle.fixed_math.specs.Names.{last_place}
use Rattle.fixed_math.specs.declared.names.Name.{Name}
use Rattle.fixed_math.specs.declared.names.Names.TheInside.{Inside}

abbrev pub texts_of : List Name → List (List ℕ)
texts_of ns = map (λ n. n.text.now) ns

abbrev pub texts_in : Inside → List (List ℕ)
texts_in t = texts_of t.names.items

-- the place that the map has for a text
abbrev pub place_in : BTreeMap (Bor (List ℕ)) ℕ → List ℕ → Option ℕ
place_in m text = get_by (λ k. slice_cmp nat_cmp text k.now) m

-- a name holds the last place of its text among those before it
abbrev pub KnowsBefore : List Name → Name → Type 0
KnowsBefore ns n = n.before ≡ last_place n.text.now (texts_of ns)

-- the map has each name's last place, and each name knows the one before
pub record IsTable (t : Inside) : Type 0 where
  pub finds : (text : List ℕ) → place_in t.last text ≡ last_place text (texts_in t)
  pub restores : (i : ℕ) (d : Name) → i < length t.names.items → KnowsBefore (take i t.names.items) (slice_index_or t.names.items i d)
