-- The names that the tables of a model hold.
use Rattle.std.proofs.Common.{◌≡◌, ℕ, List, Bool, ap, ◌∙◌}
use Rattle.room_ast.specs.Trees.{ModelTree}
use Rattle.room_ast.specs.model_parts.Classes as classes
use Rattle.check_tables.specs.class_tables.Containers.{class_names, tables_with, tables_of}
use Rattle.check_tables.specs.declared.class_tables.tables.Tables.{Tables}

pub data_names : (m : ModelTree) (t : Tables) → t ≡ tables_of m → t.names.data_classes ≡ classes.data_names m
unfolding class_names tables_with
data_names m t e = ap (λ (x : Tables). x.names.data_classes) e

pub protocol_names : (m : ModelTree) (t : Tables) → t ≡ tables_of m → t.names.protocols ≡ classes.protocol_names m
unfolding class_names tables_with
protocol_names m t e = ap (λ (x : Tables). x.names.protocols) e

pub actor_names : (m : ModelTree) (t : Tables) → t ≡ tables_of m → t.names.actors ≡ classes.actor_names m
unfolding class_names tables_with
actor_names m t e = ap (λ (x : Tables). x.names.actors) e

pub subsystem_names : (m : ModelTree) (t : Tables) → t ≡ tables_of m → t.names.subsystems ≡ classes.subsystem_names m
unfolding class_names tables_with
subsystem_names m t e = ap (λ (x : Tables). x.names.subsystems) e

-- a test of classes, by names that are those of the model
pub named_test : {A : Type 0} (f : List (List ℕ) → A → Bool) (r : Bool) (ns ms : List (List ℕ)) (cs ds : A) → r ≡ f ns cs → ns ≡ ms → cs ≡ ds → r ≡ f ms ds
named_test f r ns ms cs ds e a b = e ∙ ap (λ x. f x cs) a ∙ ap (f ms) b
