-- A comparison with a kind is the test for that kind.
use Rattle.std.proofs.Common.{◌≡◌, Bool, not, refl, sym, ap, ◌∙◌}
use denote.Enum.Bare.{sameb}
use Rattle.std.proofs.Math.Bool.{not-not}
use Rattle.records.specs.declared.nodes.Kind.{Kind}
use Rattle.records.specs.declared.nodes.Kind.TheVariants.{Element, Attribute, Text}
use Rattle.records.specs.contracts.nodes.Kind.{the_type}
use Rattle.document.specs.Table.{is_attribute}
use Rattle.store.specs.Says.{is_element, is_text}
use Rattle.flat.specs.declared.rows.FlatRow.{FlatRow}

pub record Tests (k : Kind) : Type 0 where
  pub element : sameb the_type k Element ≡ is_element k
  pub attribute : sameb the_type k Attribute ≡ is_attribute k
  pub text : sameb the_type k Text ≡ is_text k

pub tests_of : (k : Kind) → Tests k
tests_of Element = record { element = refl; attribute = refl; text = refl }
tests_of Attribute = record { element = refl; attribute = refl; text = refl }
tests_of Text = record { element = refl; attribute = refl; text = refl }

-- the outcome of a test of a row that was read
pub element_eq : {x y : FlatRow} {r b : Bool} → x ≡ y → r ≡ sameb the_type x.node.kind Element → r ≡ b → is_element y.node.kind ≡ b
element_eq {x} e t o = ap (λ (z : FlatRow). is_element z.node.kind) (sym e) ∙ sym (tests_of x.node.kind).element ∙ sym t ∙ o

pub attribute_eq : {x y : FlatRow} {r b : Bool} → x ≡ y → r ≡ sameb the_type x.node.kind Attribute → r ≡ b → is_attribute y.node.kind ≡ b
attribute_eq {x} e t o = ap (λ (z : FlatRow). is_attribute z.node.kind) (sym e) ∙ sym (tests_of x.node.kind).attribute ∙ sym t ∙ o

pub text_eq : {x y : FlatRow} {r b : Bool} → x ≡ y → r ≡ sameb the_type x.node.kind Text → r ≡ b → is_text y.node.kind ≡ b
text_eq {x} e t o = ap (λ (z : FlatRow). is_text z.node.kind) (sym e) ∙ sym (tests_of x.node.kind).text ∙ sym t ∙ o

turned : {a r : Bool} → r ≡ not a → not r ≡ a
turned {a} e = ap not e ∙ not-not a

pub element_ne : {x y : FlatRow} {r b : Bool} → x ≡ y → r ≡ not (sameb the_type x.node.kind Element) → r ≡ b → is_element y.node.kind ≡ not b
element_ne e t o = element_eq e (turned t) (ap not o)

pub attribute_ne : {x y : FlatRow} {r b : Bool} → x ≡ y → r ≡ not (sameb the_type x.node.kind Attribute) → r ≡ b → is_attribute y.node.kind ≡ not b
attribute_ne e t o = attribute_eq e (turned t) (ap not o)
