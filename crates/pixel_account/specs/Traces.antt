-- The fragments of a sample, each with the cell that it is of.
use Rattle.std.specs.Prelude.{◌≡◌, ℕ, List, [], ◌∷◌, ◌++◌, map, take, drop, cond}
use Rattle.scene.specs.Scene.{FrameValue}
use Rattle.shader_binding.specs.Sets.{AcceptedValue}
use Rattle.hider.specs.declared.fragment.Fragment.{Fragment}
use Rattle.hider.specs.declared.sample.Sample.{Sample}
use Rattle.hider.specs.Composite.{is_opaque, cut}
use Rattle.hider.specs.Kept.{keep}
use Rattle.pixel_account.specs.declared.traces.Trace.{Trace}
use Rattle.pixel_account.specs.Origins.{IsOfCell}

-- the fragments of traces
abbrev pub fragments_in : List Trace → List Fragment
fragments_in ts = map (λ t. t.fragment) ts

-- nothing stands behind an opaque one
abbrev pub AreWhole : List Trace → Type 0
AreWhole ts = cut (fragments_in ts) ≡ fragments_in ts

-- the trace is of a cell of a leaf of the frame
abbrev pub IsTrace : AcceptedValue → FrameValue → Sample → Trace → Type 0
IsTrace a f s t = IsOfCell a f s t.cell t.seen t.fragment

-- what is kept with a fragment more: it stands at a place, and behind it those that stood there, unless it is opaque
abbrev pub KeepsAt : Fragment → List Fragment → ℕ → Type 0
KeepsAt f l p = keep f l ≡ take p l ++ f ∷ cond (is_opaque f) [] (drop p l)
