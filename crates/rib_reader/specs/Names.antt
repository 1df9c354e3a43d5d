-- Names with what they stand for, as data: requests, classes, kinds, and the variables that are declared from the start
-- (RenderMan Interface 3.2, sections 4 to 6 and appendices A and C; the class facevarying is later than that version).
use Rattle.std.specs.Prelude.{ℕ, Bool, ◌&&◌, nat_eq, nat_lt, List, [], ◌∷◌, Option, Some, None, codes, if◌then◌else◌, length}
use Rattle.std.specs.List.{starts_with}
use Rattle.std.specs.Str.{bytes_eq}
use Rattle.rib_reader.specs.declared.req.Req.TheVariants as reqs
use Rattle.rib_reader.specs.declared.names.Named.{Named}
use Rattle.rib_reader.specs.declared.names.Named.TheVariants.{Known, LeftOut}
use Rattle.scene.specs.declared.params.Class.{Class}
use Rattle.scene.specs.declared.params.Class.TheVariants.{Constant, Uniform, Varying, Vertex, FaceVarying}
use Rattle.scene.specs.declared.params.Kind.{Kind}
use Rattle.scene.specs.declared.params.Kind.TheVariants.{Float, Color, Point, Vector, Normal, Str, Pair}

-- what a name stands for
abbrev pub entry_of : {A : Type 0} → List (List ℕ × A) → List ℕ → Option A
entry_of [] name = None
entry_of (e ∷ es) name = if bytes_eq e.0 name then Some e.1 else entry_of es name

-- the requests that are read, and those that are left out
abbrev pub request_names : List (List ℕ × Named)
request_names =
    (codes "FrameBegin", Known reqs.FrameBegin)
    ∷ (codes "FrameEnd", Known reqs.FrameEnd)
    ∷ (codes "WorldBegin", Known reqs.WorldBegin)
    ∷ (codes "WorldEnd", Known reqs.WorldEnd)
    ∷ (codes "AttributeBegin", Known reqs.AttributeBegin)
    ∷ (codes "AttributeEnd", Known reqs.AttributeEnd)
    ∷ (codes "TransformBegin", Known reqs.TransformBegin)
    ∷ (codes "TransformEnd", Known reqs.TransformEnd)
    ∷ (codes "Identity", Known reqs.Identity)
    ∷ (codes "ReverseOrientation", Known reqs.ReverseOrientation)
    ∷ (codes "Declare", Known reqs.Declare)
    ∷ (codes "Format", Known reqs.Format)
    ∷ (codes "FrameAspectRatio", Known reqs.FrameAspectRatio)
    ∷ (codes "ScreenWindow", Known reqs.ScreenWindow)
    ∷ (codes "CropWindow", Known reqs.CropWindow)
    ∷ (codes "Clipping", Known reqs.Clipping)
    ∷ (codes "Projection", Known reqs.Projection)
    ∷ (codes "PixelSamples", Known reqs.PixelSamples)
    ∷ (codes "PixelFilter", Known reqs.PixelFilter)
    ∷ (codes "Exposure", Known reqs.Exposure)
    ∷ (codes "Quantize", Known reqs.Quantize)
    ∷ (codes "Display", Known reqs.Display)
    ∷ (codes "Color", Known reqs.Color)
    ∷ (codes "Opacity", Known reqs.Opacity)
    ∷ (codes "ShadingRate", Known reqs.ShadingRate)
    ∷ (codes "ShadingInterpolation", Known reqs.ShadingInterpolation)
    ∷ (codes "Sides", Known reqs.Sides)
    ∷ (codes "Orientation", Known reqs.Orientation)
    ∷ (codes "Surface", Known reqs.Surface)
    ∷ (codes "Displacement", Known reqs.Displacement)
    ∷ (codes "Atmosphere", Known reqs.Atmosphere)
    ∷ (codes "LightSource", Known reqs.LightSource)
    ∷ (codes "Illuminate", Known reqs.Illuminate)
    ∷ (codes "Attribute", Known reqs.Attribute)
    ∷ (codes "Basis", Known reqs.Basis)
    ∷ (codes "Translate", Known reqs.Translate)
    ∷ (codes "Scale", Known reqs.Scale)
    ∷ (codes "Rotate", Known reqs.Rotate)
    ∷ (codes "Transform", Known reqs.Transform)
    ∷ (codes "ConcatTransform", Known reqs.ConcatTransform)
    ∷ (codes "Patch", Known reqs.Patch)
    ∷ (codes "PatchMesh", Known reqs.PatchMesh)
    ∷ (codes "Polygon", Known reqs.Polygon)
    ∷ (codes "PointsPolygons", Known reqs.PointsPolygons)
    ∷ (codes "Sphere", Known reqs.Sphere)
    ∷ (codes "Cylinder", Known reqs.Cylinder)
    ∷ (codes "Cone", Known reqs.Cone)
    ∷ (codes "Disk", Known reqs.Disk)
    ∷ (codes "version", Known reqs.Version)
    ∷ (codes "ErrorHandler", Known reqs.ErrorHandler)
    ∷ (codes "Hider", Known reqs.Hider)
    ∷ (codes "Shutter", Known reqs.Shutter)
    ∷ (codes "MotionBegin", Known reqs.MotionBegin)
    ∷ (codes "MotionEnd", Known reqs.MotionEnd)
    ∷ (codes "RelativeDetail", Known reqs.RelativeDetail)
    ∷ (codes "GeometricApproximation", Known reqs.GeometricApproximation)
    ∷ (codes "PixelVariance", Known reqs.PixelVariance)
    ∷ (codes "Bound", Known reqs.Bound)
    ∷ (codes "CoordinateSystem", Known reqs.CoordinateSystem)
    ∷ (codes "Option", Known reqs.Option)
    ∷ (codes "ReadArchive", LeftOut)
    ∷ (codes "GeneralPolygon", LeftOut)
    ∷ (codes "PointsGeneralPolygons", LeftOut)
    ∷ (codes "NuPatch", LeftOut)
    ∷ (codes "TrimCurve", LeftOut)
    ∷ (codes "SubdivisionMesh", LeftOut)
    ∷ (codes "Curves", LeftOut)
    ∷ (codes "Points", LeftOut)
    ∷ (codes "Blobby", LeftOut)
    ∷ (codes "Hyperboloid", LeftOut)
    ∷ (codes "Paraboloid", LeftOut)
    ∷ (codes "Torus", LeftOut)
    ∷ (codes "SolidBegin", LeftOut)
    ∷ (codes "ObjectBegin", LeftOut)
    ∷ (codes "Detail", LeftOut)
    ∷ (codes "DetailRange", LeftOut)
    ∷ (codes "AreaLightSource", LeftOut)
    ∷ (codes "Imager", LeftOut)
    ∷ (codes "Interior", LeftOut)
    ∷ (codes "Exterior", LeftOut)
    ∷ (codes "Matte", LeftOut)
    ∷ (codes "Deformation", LeftOut)
    ∷ (codes "Skew", LeftOut)
    ∷ (codes "Perspective", LeftOut)
    ∷ (codes "CoordSysTransform", LeftOut)
    ∷ (codes "TextureCoordinates", LeftOut)
    ∷ (codes "ColorSamples", LeftOut)
    ∷ (codes "DepthOfField", LeftOut)
    ∷ []

-- MakeTexture and the like
abbrev pub is_make : List ℕ → Bool
is_make name = starts_with nat_eq name (codes "Make") && nat_lt 4 (length name)

-- the request of a name, or that it is left out
abbrev pub named : List ℕ → Option Named
named name = if is_make name then Some LeftOut else entry_of request_names name

-- the storage classes by name
abbrev pub class_names : List (List ℕ × Class)
class_names =
    (codes "constant", Constant)
    ∷ (codes "uniform", Uniform)
    ∷ (codes "varying", Varying)
    ∷ (codes "vertex", Vertex)
    ∷ (codes "facevarying", FaceVarying)
    ∷ []

-- the kinds of variables by name
abbrev pub kind_names : List (List ℕ × Kind)
kind_names =
    (codes "float", Float)
    ∷ (codes "integer", Float)
    ∷ (codes "color", Color)
    ∷ (codes "point", Point)
    ∷ (codes "vector", Vector)
    ∷ (codes "normal", Normal)
    ∷ (codes "string", Str)
    ∷ []

-- the variables that are declared from the start
abbrev pub variable_names : List (List ℕ × (Class × Kind))
variable_names =
    (codes "Ka", (Uniform, Float))
    ∷ (codes "Kd", (Uniform, Float))
    ∷ (codes "Ks", (Uniform, Float))
    ∷ (codes "Kr", (Uniform, Float))
    ∷ (codes "roughness", (Uniform, Float))
    ∷ (codes "intensity", (Uniform, Float))
    ∷ (codes "coneangle", (Uniform, Float))
    ∷ (codes "conedeltaangle", (Uniform, Float))
    ∷ (codes "beamdistribution", (Uniform, Float))
    ∷ (codes "mindistance", (Uniform, Float))
    ∷ (codes "maxdistance", (Uniform, Float))
    ∷ (codes "distance", (Uniform, Float))
    ∷ (codes "amplitude", (Uniform, Float))
    ∷ (codes "fov", (Uniform, Float))
    ∷ (codes "lightcolor", (Uniform, Color))
    ∷ (codes "specularcolor", (Uniform, Color))
    ∷ (codes "background", (Uniform, Color))
    ∷ (codes "from", (Uniform, Point))
    ∷ (codes "to", (Uniform, Point))
    ∷ (codes "texturename", (Uniform, Str))
    ∷ (codes "s", (Varying, Float))
    ∷ (codes "t", (Varying, Float))
    ∷ (codes "st", (Varying, Pair))
    ∷ (codes "Cs", (Varying, Color))
    ∷ (codes "Os", (Varying, Color))
    ∷ (codes "N", (Varying, Normal))
    ∷ (codes "P", (Vertex, Point))
    ∷ []
