-- The table of requests: the kinds of the arguments, what is said of their values, and what follows them (RenderMan
-- Interface 3.2, sections 4 and 5 and appendix C, with this program's profile).
use Rattle.std.specs.Prelude.{ℕ, ℤ, pos, List, [], ◌∷◌, codes}
use Rattle.rib_reader.specs.declared.req.Req.{Req}
use Rattle.rib_reader.specs.declared.req.Req.TheVariants as reqs
use Rattle.rib_reader.specs.declared.table.Shape.{Shape}
use Rattle.rib_reader.specs.declared.table.Shape.TheVariants.{Whole, Number, Word, Array, Wholes}
use Rattle.rib_reader.specs.declared.table.Words.{Words}
use Rattle.rib_reader.specs.declared.table.Words.TheVariants.{Projections, Filters, Modes, Interpolations, Orientations, Handed, Bases, Patches, Bicubic, Wraps, Bounds}
use Rattle.rib_reader.specs.declared.table.Rule.{Rule}
use Rattle.rib_reader.specs.declared.table.Rule.TheVariants.{Within, AtLeast, Rising, Ordered, Only, Between, OneOf, NoneOf, NoArray, Levels, WholeSphere, Times, Declaration}
use Rattle.rib_reader.specs.declared.table.Tail.{Tail}
use Rattle.rib_reader.specs.declared.table.Tail.TheVariants as tails
use Rattle.rib_reader.specs.declared.faults.RibCode.TheVariants.{S2, S3}

-- the words of a set
abbrev pub words_in : Words → List (List ℕ)
words_in Projections = codes "orthographic" ∷ codes "perspective" ∷ []
words_in Filters = codes "box" ∷ codes "triangle" ∷ codes "gaussian" ∷ []
words_in Modes = codes "rgb" ∷ codes "rgba" ∷ []
words_in Interpolations = codes "constant" ∷ codes "smooth" ∷ []
words_in Orientations = codes "outside" ∷ codes "inside" ∷ codes "lh" ∷ codes "rh" ∷ []
words_in Handed = codes "lh" ∷ codes "rh" ∷ []
words_in Bases = codes "bezier" ∷ codes "b-spline" ∷ codes "catmull-rom" ∷ codes "hermite" ∷ codes "power" ∷ []
words_in Patches = codes "bilinear" ∷ codes "bicubic" ∷ []
words_in Bicubic = codes "bicubic" ∷ []
words_in Wraps = codes "periodic" ∷ codes "nonperiodic" ∷ []
words_in Bounds = codes "displacementbound" ∷ []

-- a row of the table
pub record TableRow : Type 0 where
  pub shapes : List Shape
  pub rules : List Rule
  pub tail : Tail

abbrev pub row : List Shape → List Rule → Tail → TableRow
row shapes rules tail = record { shapes = shapes; rules = rules; tail = tail }

-- these arguments and nothing else
abbrev pub plain_row : List Shape → TableRow
plain_row shapes = row shapes [] tails.Empty

-- arguments that are passed over
abbrev pub passed_over : TableRow
passed_over = row [] [] tails.Anything

-- the greatest whole number
abbrev pub greatest : ℤ
greatest = pos 2147483647

-- 360 degrees
abbrev pub full_turn : ℤ
full_turn = pos 23592960

-- the row of a request: the kinds of its arguments, the rules on their values, and what follows
abbrev pub row_of : Req → TableRow
row_of reqs.FrameBegin = plain_row (Whole ∷ [])
row_of reqs.FrameEnd = plain_row []
row_of reqs.WorldBegin = plain_row []
row_of reqs.WorldEnd = plain_row []
row_of reqs.AttributeBegin = plain_row []
row_of reqs.AttributeEnd = plain_row []
row_of reqs.TransformBegin = plain_row []
row_of reqs.TransformEnd = plain_row []
row_of reqs.Identity = plain_row []
row_of reqs.ReverseOrientation = plain_row []
row_of reqs.Declare = row (Word ∷ Word ∷ []) (Declaration ∷ []) tails.Empty
row_of reqs.Format = row (Whole ∷ Whole ∷ Number ∷ []) (Within 0 (pos 1) greatest ∷ Within 1 (pos 1) greatest ∷ []) tails.Empty
row_of reqs.FrameAspectRatio = row (Number ∷ []) (AtLeast 0 (pos 1) ∷ []) tails.Empty
row_of reqs.ScreenWindow = row (Number ∷ Number ∷ Number ∷ Number ∷ []) (Rising 0 1 ∷ Rising 2 3 ∷ []) tails.Empty
row_of reqs.CropWindow = row (Number ∷ Number ∷ Number ∷ Number ∷ [])
    (Between 0 (pos 0) (pos 65536) ∷ Between 1 (pos 0) (pos 65536) ∷ Rising 0 1 ∷ Between 2 (pos 0) (pos 65536) ∷ Between 3 (pos 0) (pos 65536) ∷ Rising 2 3 ∷ []) tails.Empty
row_of reqs.Clipping = row (Number ∷ Number ∷ []) (AtLeast 0 (pos 1) ∷ Rising 0 1 ∷ []) tails.Empty
row_of reqs.Projection = row (Word ∷ []) (OneOf 0 Projections S2 ∷ []) tails.Parameters
row_of reqs.PixelSamples = row (Number ∷ Number ∷ []) (AtLeast 0 (pos 65536) ∷ AtLeast 1 (pos 65536) ∷ []) tails.Empty
row_of reqs.PixelFilter = row (Word ∷ Number ∷ Number ∷ []) (OneOf 0 Filters S2 ∷ AtLeast 1 (pos 256) ∷ AtLeast 2 (pos 256) ∷ []) tails.Empty
row_of reqs.Exposure = row (Number ∷ Number ∷ []) (AtLeast 1 (pos 1) ∷ []) tails.Empty
row_of reqs.Quantize = row (Word ∷ Whole ∷ Whole ∷ Whole ∷ Number ∷ []) (Levels ∷ []) tails.Empty
row_of reqs.Display = row (Word ∷ Word ∷ Word ∷ []) (OneOf 2 Modes S2 ∷ []) tails.Free
row_of reqs.Color = plain_row (Array 3 ∷ [])
row_of reqs.Opacity = plain_row (Array 3 ∷ [])
row_of reqs.ShadingRate = plain_row (Number ∷ [])
row_of reqs.ShadingInterpolation = row (Word ∷ []) (OneOf 0 Interpolations S3 ∷ []) tails.Empty
row_of reqs.Sides = row (Whole ∷ []) (Within 0 (pos 1) (pos 2) ∷ []) tails.Empty
row_of reqs.Orientation = row (Word ∷ []) (OneOf 0 Orientations S3 ∷ NoneOf 0 Handed ∷ []) tails.Empty
row_of reqs.Surface = row (Word ∷ []) [] tails.Parameters
row_of reqs.Displacement = row (Word ∷ []) [] tails.Parameters
row_of reqs.Atmosphere = row (Word ∷ []) [] tails.Parameters
row_of reqs.LightSource = row (Word ∷ Whole ∷ []) [] tails.Parameters
row_of reqs.Illuminate = row (Whole ∷ Whole ∷ []) (Within 1 (pos 0) (pos 1) ∷ []) tails.Empty
row_of reqs.Attribute = row (Word ∷ []) [] tails.Attribute
row_of reqs.Basis = row (Word ∷ Whole ∷ Word ∷ Whole ∷ [])
    (NoArray 0 ∷ OneOf 0 Bases S3 ∷ Within 1 (pos 1) greatest ∷ NoArray 2 ∷ OneOf 2 Bases S3 ∷ Within 3 (pos 1) greatest ∷ []) tails.Empty
row_of reqs.Translate = plain_row (Number ∷ Number ∷ Number ∷ [])
row_of reqs.Scale = plain_row (Number ∷ Number ∷ Number ∷ [])
row_of reqs.Rotate = plain_row (Number ∷ Number ∷ Number ∷ Number ∷ [])
row_of reqs.Transform = plain_row (Array 16 ∷ [])
row_of reqs.ConcatTransform = plain_row (Array 16 ∷ [])
row_of reqs.Patch = row (Word ∷ []) (OneOf 0 Patches S3 ∷ []) tails.PatchVariables
row_of reqs.PatchMesh = row (Word ∷ Whole ∷ Word ∷ Whole ∷ Word ∷ [])
    (OneOf 0 Patches S3 ∷ Within 1 (pos 1) (pos 65536) ∷ OneOf 2 Wraps S3 ∷ Within 3 (pos 1) (pos 65536) ∷ OneOf 4 Wraps S3 ∷ []) tails.PatchVariables
row_of reqs.Polygon = row [] [] tails.Variables
row_of reqs.PointsPolygons = row (Wholes ∷ Wholes ∷ []) [] tails.Variables
row_of reqs.Sphere = row (Number ∷ Number ∷ Number ∷ Number ∷ []) (AtLeast 0 (pos 1) ∷ WholeSphere ∷ Only 3 full_turn ∷ []) tails.QuadricVariables
row_of reqs.Cylinder = row (Number ∷ Number ∷ Number ∷ Number ∷ []) (AtLeast 0 (pos 1) ∷ Only 3 full_turn ∷ []) tails.QuadricVariables
row_of reqs.Cone = row (Number ∷ Number ∷ Number ∷ []) (AtLeast 1 (pos 1) ∷ Only 2 full_turn ∷ []) tails.QuadricVariables
row_of reqs.Disk = row (Number ∷ Number ∷ Number ∷ []) (AtLeast 1 (pos 1) ∷ Only 2 full_turn ∷ []) tails.QuadricVariables
row_of reqs.Version = passed_over
row_of reqs.ErrorHandler = passed_over
row_of reqs.Hider = passed_over
row_of reqs.Shutter = row (Number ∷ Number ∷ []) (Ordered 0 1 ∷ []) tails.Empty
row_of reqs.MotionBegin = row (Array 2 ∷ []) (Times ∷ []) tails.Empty
row_of reqs.MotionEnd = plain_row []
row_of reqs.RelativeDetail = passed_over
row_of reqs.GeometricApproximation = passed_over
row_of reqs.PixelVariance = passed_over
row_of reqs.Bound = passed_over
row_of reqs.CoordinateSystem = passed_over
row_of reqs.Option = passed_over

-- the kinds of a request's arguments
abbrev pub shapes_of : Req → List Shape
shapes_of name = (row_of name).shapes

-- what is said of their values
abbrev pub rules_of : Req → List Rule
rules_of name = (row_of name).rules
