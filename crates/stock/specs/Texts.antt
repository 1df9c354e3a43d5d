-- The stock shaders (RenderMan Interface 3.2, section 11 and appendix A), each name with the text of its shader.
use Rattle.std.specs.Prelude.{ℕ, List, [], ◌∷◌, Option, Some, None, codes, if◌then◌else◌}
use Rattle.std.specs.Str.{bytes_eq}

-- what stands behind a name
abbrev pub text_of : List (List ℕ × List ℕ) → List ℕ → Option (List ℕ)
text_of [] name = None
text_of (e ∷ es) name = if bytes_eq e.0 name then Some e.1 else text_of es name

abbrev pub stock_texts : List (List ℕ × List ℕ)
stock_texts =
    (codes "constant", codes "surface constant() { Oi = Os; Ci = Os * Cs; }")
    ∷ (codes "matte", codes "surface matte(float Ka = 1; float Kd = 1;) { normal Nf = faceforward(normalize(N), I);\n  Oi = Os; Ci = Os * Cs * (Ka * ambient() + Kd * diffuse(Nf)); }")
    ∷ (codes "metal", codes "surface metal(float Ka = 1; float Ks = 1; float roughness = 0.1;) {\n  normal Nf = faceforward(normalize(N), I); Oi = Os;\n  Ci = Os * Cs * (Ka * ambient() + Ks * specular(Nf, -normalize(I), roughness)); }")
    ∷ (codes "shinymetal", codes "surface shinymetal(float Ka = 1; float Ks = 1; float roughness = 0.1; float Kr = 1; string texturename = \"\";) {\n  normal Nf = faceforward(normalize(N), I); Oi = Os;\n  Ci = Os * Cs * (Ka * ambient() + Ks * specular(Nf, -normalize(I), roughness)); }")
    ∷ (codes "plastic", codes "surface plastic(float Ka = 1; float Kd = 0.5; float Ks = 0.5; float roughness = 0.1; color specularcolor = 1;) {\n  normal Nf = faceforward(normalize(N), I); Oi = Os;\n  Ci = Os * (Cs * (Ka * ambient() + Kd * diffuse(Nf)) + specularcolor * Ks * specular(Nf, -normalize(I), roughness)); }")
    ∷ (codes "ambientlight", codes "light ambientlight(float intensity = 1; color lightcolor = 1;) { Cl = intensity * lightcolor; }")
    ∷ (codes "distantlight", codes "light distantlight(float intensity = 1; color lightcolor = 1; point from = point \"shader\" (0, 0, 0); point to = point \"shader\" (0, 0, 1);) {\n  solar(to - from, 0) Cl = intensity * lightcolor; }")
    ∷ (codes "pointlight", codes "light pointlight(float intensity = 1; color lightcolor = 1; point from = point \"shader\" (0, 0, 0);) {\n  illuminate(from) Cl = intensity * lightcolor / (L . L); }")
    ∷ (codes "spotlight", codes "light spotlight(float intensity = 1; color lightcolor = 1; point from = point \"shader\" (0, 0, 0); point to = point \"shader\" (0, 0, 1); float coneangle = radians(30); float conedeltaangle = radians(5); float beamdistribution = 2;) {\n  uniform vector A = normalize(to - from);\n  illuminate(from, A, coneangle) { float c = normalize(L) . A;\n    Cl = intensity * lightcolor * pow(c, beamdistribution) * smoothstep(cos(coneangle), cos(coneangle - conedeltaangle), c) / (L . L); } }")
    ∷ (codes "depthcue", codes "volume depthcue(float mindistance = 0; float maxdistance = 1; color background = 0;) {\n  float d = clamp((depth(P) - mindistance) / (maxdistance - mindistance), 0, 1);\n  Ci = mix(Ci, background, d); Oi = mix(Oi, color 1, d); }")
    ∷ (codes "fog", codes "volume fog(float distance = 1; color background = 0;) { float d = 1 - exp(-length(I) / distance);\n  Ci = mix(Ci, background, d); Oi = mix(Oi, color 1, d); }")
    ∷ (codes "bumpy", codes "displacement bumpy(float amplitude = 1; string texturename = \"\";) {\n  P += amplitude * noise(transform(\"shader\", P)) * normalize(N); N = calculatenormal(P); }")
    ∷ []
