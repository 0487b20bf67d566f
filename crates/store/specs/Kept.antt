-- What a store may hold: nothing, or one tree. Only the names of attributes are free to repeat.
use Rattle.std.specs.Prelude.{◌≡◌, ℕ, ◌≤◌}
use Rattle.records.specs.declared.nodes.Kind.TheVariants.{Element}
use Rattle.document.specs.Tree.{Forest, nil, node, count, count_names, Above, Formed, Attributes, Holds}

-- every node of a row of trees has the parts that its kind allows, and its attributes stand in ascending identifiers
abbrev pub Shaped : Forest → Type 0
Shaped nil = Unit {0}
Shaped (node r as' k f) = Formed r × Holds r.kind as' k × Attributes as' × Above 0 as' × Shaped k × Shaped f

-- no tree, or one whose root is an element
abbrev pub AtMostOne : Forest → Type 0
AtMostOne nil = Unit {0}
AtMostOne (node r as' k nil) = r.kind ≡ Element
AtMostOne (node r as' k (node s bs l f)) = ⊥

pub record Kept (d : Forest) : Type 0 where
  pub root : AtMostOne d
  pub shaped : Shaped d
  pub distinct : (t : ℕ) → count t d ≤ 1

-- no element has two attributes of one name
abbrev pub NamesOnce : Forest → Type 0
NamesOnce nil = Unit {0}
NamesOnce (node r as' k f) = ((t : ℕ) → count_names t as' ≤ 1) × NamesOnce k × NamesOnce f
