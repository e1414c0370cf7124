use Rattle.std.proofs.Common.{rules, ◌≡◌, ◌∙◌, ◌++◌, ap, map, arith}
use Rattle.std.specs.Prelude.{option_map}
use Rattle.room_ast.specs.MappingTree.{MappingOf, no_braces, in_braces, mapping_view, mappings_of}
use Rattle.room_ast.specs.declared.system.Mapping.{out-Mapping, the_lemmas}
use Rattle.room_kinds.specs.declared.numbers.ControllerId.{ControllerId}
use Rattle.wiring_slots.specs.declared.slot_tree.names.MappingPlan.{MappingPlan}
use Rattle.wiring_slots.specs.slot_names.Ways.{controller_of}
use Rattle.wiring_slots.specs.slot_tree.Continuing.{with_mapping}
use Rattle.wiring_slots.proofs.slot_names.Behind.{inside_there, one_added, all_added, braces_close}
use Rattle.wiring_slots.proofs.slot_names.ways.+mappings.Goals as goal

pub add_mapping-close-requires-clause-alike : goal.add_mapping-close-requires-clause-alike
add_mapping-close-requires-clause-alike t c =
    let owned = c.in_ok-own.ensures ∙ ap (λ (k : ControllerId). let m : MappingPlan = record { steps = c.in-Some.end.steps.items; controller = k } in m) (c.controller_of-controller.ensures ∙ ap (controller_of c.args.threads.now) c.as_bytes.ensures) in
    let pushed = c.in_ok-push.ensures ∙ ap (λ n. with_mapping n c.in_ok-own.own c.args.plans.now) (c.len-kept.ensures ∙ c.args.path.now.ok.0) in
    let deep : c.extend_from_slice.new.self.items ≡ c.args.path.now.items ++ c.in-Some.end.steps.items = cc (c.in_ok-extend_from_slice.ensures.items, c.as_slice.ensures.value) in
    (braces_close c.args.actors.now c.args.threads.now c.args.plans.now c.args.path.now.items (option_map (λ p. p.now) c.args.place) _ _ c.in_ok-end.field-0 c.in_ok-end.ensures c.requires.there
    c.in-Some.end c.in-Some.is c.in_ok-own.own owned c.push.new.self pushed c.extend_from_slice.new.self.items deep
    (mappings_of (map mapping_view c.in-Some-nested.nested.items)) c.add_all.new.plans c.in_ok-add_all-in-Some-nested.ensures.added c.len-first.result c.len-first.ensures).alike

pub add_mapping-add_all-requires : goal.add_mapping-add_all-requires
add_mapping-add_all-requires t c =
    let owned = c.in_ok-own.ensures ∙ ap (λ (k : ControllerId). let m : MappingPlan = record { steps = c.in-Some.end.steps.items; controller = k } in m) (c.controller_of-controller.ensures ∙ ap (controller_of c.args.threads.now) c.as_bytes.ensures) in
    let pushed = c.in_ok-push.ensures ∙ ap (λ n. with_mapping n c.in_ok-own.own c.args.plans.now) (c.len-kept.ensures ∙ c.args.path.now.ok.0) in
    let deep : c.extend_from_slice.new.self.items ≡ c.args.path.now.items ++ c.in-Some.end.steps.items = cc (c.in_ok-extend_from_slice.ensures.items, c.as_slice.ensures.value) in
    let there =
    inside_there c.args.actors.now c.args.threads.now c.args.plans.now c.args.path.now.items (option_map (λ p. p.now) c.args.place) _ _ c.in_ok-end.field-0 c.in_ok-end.ensures c.requires.there
    c.in-Some.end c.in-Some.is c.in_ok-own.own owned c.push.new.self pushed c.extend_from_slice.new.self.items deep
    in
    (first_of (search (rules, the_lemmas), search (the_lemmas, c.decreases, c.in-Some-nested.is), grind (arith, the_lemmas)), there)

pub add_mapping-returns-in-Some-nested-clause-added : goal.add_mapping-returns-in-Some-nested-clause-added
add_mapping-returns-in-Some-nested-clause-added t c =
    let owned = c.in_ok-own.ensures ∙ ap (λ (k : ControllerId). let m : MappingPlan = record { steps = c.in-Some.end.steps.items; controller = k } in m) (c.controller_of-controller.ensures ∙ ap (controller_of c.args.threads.now) c.as_bytes.ensures) in
    let pushed = c.in_ok-push.ensures ∙ ap (λ n. with_mapping n c.in_ok-own.own c.args.plans.now) (c.len-kept.ensures ∙ c.args.path.now.ok.0) in
    let deep : c.extend_from_slice.new.self.items ≡ c.args.path.now.items ++ c.in-Some.end.steps.items = cc (c.in_ok-extend_from_slice.ensures.items, c.as_slice.ensures.value) in
    let inner = mappings_of (map mapping_view c.in-Some-nested.nested.items) in
    let layer = out-Mapping c.args.mapping.now in
    let tree : mapping_view c.args.mapping.now ≡ MappingOf layer.path layer.thread (in_braces inner) = search (rules, the_lemmas) in
    rw (c.close.ensures, tree)
    (all_added c.args.actors.now c.args.threads.now c.args.plans.now c.args.path.now.items (option_map (λ p. p.now) c.args.place) _ _ c.in_ok-end.field-0 c.in_ok-end.ensures c.requires.there
    c.in-Some.end c.in-Some.is c.in_ok-own.own owned c.push.new.self pushed c.extend_from_slice.new.self.items deep inner c.add_all.new.plans c.in_ok-add_all-in-Some-nested.ensures.added)

pub add_mapping-returns-clause-added : goal.add_mapping-returns-clause-added
add_mapping-returns-clause-added t c =
    let owned = c.in_ok-own.ensures ∙ ap (λ (k : ControllerId). let m : MappingPlan = record { steps = c.in-Some.end.steps.items; controller = k } in m) (c.controller_of-controller.ensures ∙ ap (controller_of c.args.threads.now) c.as_bytes.ensures) in
    let pushed = c.in_ok-push.ensures ∙ ap (λ n. with_mapping n c.in_ok-own.own c.args.plans.now) (c.len-kept.ensures ∙ c.args.path.now.ok.0) in
    let layer = out-Mapping c.args.mapping.now in
    let tree : mapping_view c.args.mapping.now ≡ MappingOf layer.path layer.thread no_braces = search (rules, the_lemmas) in
    rw tree
    (one_added c.args.actors.now c.args.threads.now c.args.plans.now c.args.path.now.items (option_map (λ p. p.now) c.args.place) _ _ c.in_ok-end.field-0 c.in_ok-end.ensures c.requires.there
    c.in-Some.end c.in-Some.is c.in_ok-own.own owned c.push.new.self pushed)
