-- The elements that a picture is made of.
use Rattle.std.specs.Prelude.{ℕ, zero, suc, List, [], ◌∷◌, ◌++◌, codes, decimal}

-- an attribute with a number
unfoldable pub attribute : List ℕ → ℕ → List ℕ
attribute name value = codes " " ++ (name ++ (codes "='" ++ (decimal value ++ codes "'")))

-- an element in a role
unfoldable pub class_text : List ℕ → List ℕ → List ℕ
class_text element role = codes "<" ++ (element ++ (codes " class='" ++ (role ++ codes "'")))

-- where an element stands, from the left and from above
unfoldable pub place_text : ℕ → ℕ → List ℕ
place_text x y = attribute (codes "x") x ++ attribute (codes "y") y

-- a box in a role, by its left and its upper edge, its width and its height
unfoldable pub box_text : List ℕ → ℕ → ℕ → ℕ → ℕ → List ℕ
box_text role x y width height =
    class_text (codes "rect") role ++ (place_text x y ++ (attribute (codes "width") width ++ (attribute (codes "height") height ++ codes "/>\n")))

-- words in a role, which begin at x on the line y, or stand around it, as the role says
unfoldable pub words_head : List ℕ → ℕ → ℕ → List ℕ
words_head role x y = class_text (codes "text") role ++ (place_text x y ++ codes ">")

abbrev pub words_text : List ℕ → ℕ → ℕ → List ℕ → List ℕ
words_text role x y words = words_head role x y ++ (words ++ codes "</text>\n")

-- a point of a path
unfoldable pub point_text : ℕ → ℕ → List ℕ
point_text x y = codes "M" ++ (decimal x ++ (codes " " ++ decimal y))

-- where a path turns: at this x or y
unfoldable pub turn_text : List ℕ → ℕ → List ℕ
turn_text axis to = axis ++ decimal to

-- an arrow from a point to a line above it, along this line, and up to its head
unfoldable pub arrow_text : ℕ → ℕ → ℕ → ℕ → ℕ → List ℕ
arrow_text x y line to head =
    codes "<path class='arrow' d='"
    ++ (point_text x y ++ (turn_text (codes "V") line ++ (turn_text (codes "H") to ++ (turn_text (codes "V") head ++ codes "'/>\n"))))

-- something for each of the first so many numbers
abbrev pub each : {X : Type 0} → (ℕ → X) → ℕ → List X
each f zero = []
each f (suc n) = each f n ++ f n ∷ []

-- a text for each of the first so many numbers
abbrev pub each_text : (ℕ → List ℕ) → ℕ → List ℕ
each_text text zero = []
each_text text (suc n) = each_text text n ++ text n
