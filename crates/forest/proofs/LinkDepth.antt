-- Linking two components, the depths: raised by as much as the way up needs, they stay below the square of the component's size.
use Rattle.std.proofs.Common.{◌≡◌, ℕ, suc, ◌+◌, ◌*◌, ◌^◌, ◌<◌, ◌≤◌, true, false, mul-le-mul_right, mul-le-mul, arith}
use Rattle.graph.specs.Network.{Network, Edge, add_edge}
use Rattle.graph.specs.Groups.{component}
use Rattle.graph.proofs.Grows.{component_grows}
use Rattle.naming.specs.Rename.{size}
use Rattle.naming.proofs.Equivalent.{size_at_most, size_same, size_finer, sizes_add}
use Rattle.forest.proofs.Networks.{component_groups}

-- squares grow
pub square_grows : (k l : ℕ) → k ≤ l → k * k ≤ l * l
square_grows k l h = mul-le-mul h h

-- a square of a number below 65,536 fits a word
pub square_fits : (k : ℕ) → k < 65536 → k * k < 2 ^ 32
square_fits k h = omega (arith, square_grows k 65535 (omega arith))

-- the depths of a smaller component, raised by those of a larger, are below the square of the sum
pub raised_bound : (l w x u v : ℕ) → l ≤ w → x < l * l → u < l * l → v < w * w → x + (suc v + u) < (l + w) * (l + w)
raised_bound l w x u v h p q r = omega (arith, mul-le-mul_right l h)

-- Depths of the vertices of a network, below the squares of their components' sizes; u's component is hung below v.
module _ (g : Network) (e : Edge) (n : ℕ) (small : n < 65536) (depth : ℕ → ℕ)
    (bound : (x : ℕ) → x < n → depth x < size n (component g) x * size n (component g) x)
    (u v : ℕ) (hu : u < n) (hv : v < n) (parted : component g u v ≡ false) (met : component (add_edge g e) u v ≡ true)
    (smaller : size n (component g) u ≤ size n (component g) v) where
  abbrev before : ℕ → ℕ
  before x = size n (component g) x

  abbrev after : ℕ → ℕ
  after x = size n (component (add_edge g e)) x

  -- raised by the depths of u and v, the depths of u's component are below the square of its new size
  pub raised_below : (x : ℕ) → x < n → component g u x ≡ true → depth x + (suc (depth v) + depth u) < after x * after x
  raised_below x h q =
      omega (
        arith,
        raised_bound (before u) (before v) (depth x) (depth u) (depth v) smaller (rw (← same) at (bound x h)) (bound u hu) (bound v hv),
        square_grows (before u + before v) (after x) together,
      )
    where
      same : before u ≡ before x
      same = size_same n (component g) (component_groups g) u x q

      together : before u + before v ≤ after x
      together =
          rw
          (← size_same n (component (add_edge g e)) (component_groups (add_edge g e)) u x (component_grows g e u x q))
          (sizes_add n (component g) (component (add_edge g e)) (component_groups g) (component_groups (add_edge g e)) (component_grows g e) u v parted met)

  -- so are all depths that stay
  pub kept_below : (x : ℕ) → x < n → depth x < after x * after x
  kept_below x h = omega (arith, bound x h, square_grows (before x) (after x) (size_finer n _ _ (component_grows g e) x))

  -- and they all fit a word
  pub after_fits : (x : ℕ) → after x * after x < 2 ^ 32
  after_fits x = square_fits (after x) (omega (arith, size_at_most n (component (add_edge g e)) x))
