use Rattle.std.proofs.Common.{◌∙◌, ◌<◌, length, arith}
use Rattle.wiring_slots.specs.slot_tree.WaitingSlots.{waiting_at}
use Rattle.wiring_slots.proofs.slot_tree.Growing.{index_added, all_indexes}
use Rattle.wiring_slots.proofs.slot_tree.Handing.{handed, inside_lists, left_behind, waiting_is}
use Rattle.wiring_slots.proofs.slot_tree.children.add_reference.Goals as goal

pub index_mut-requires : goal.index_mut-requires
index_mut-requires c =
    let inside = inside_lists c.args.mappings.now c.args.number c.args.reference.now.count c.loop-index.index c.args.trails.now c.loop-index.lists.items c.loop-index.invariant.lists (omega arith) in
    omega (arith, inside, c.loop-index.lists.ok.0)

pub loop-index-preserved : goal.loop-index-preserved
loop-index-preserved c =
    let mappings = c.args.mappings.now in
    let number = c.args.number in
    let i = c.loop-index.index in
    let count = c.args.reference.now.count in
    let inside : i < length c.loop-index.lists.items = inside_lists mappings number count i c.args.trails.now c.loop-index.lists.items c.loop-index.invariant.lists (omega arith) in
    record {
      children =
          c.in_ok-push.ensures.items
          ∙ index_added (waiting_at mappings c.args.container.now number c.args.reference.now) c.args.children.now.items c.loop-index.children.items i c.waiting_with.result c.loop-index.invariant.children (
          waiting_is mappings c.args.container.now number c.args.reference.now i c.replace-leading.result c.waiting_with.result c.waiting_with.ensures
          (handed mappings number count i c.args.container.now.trails c.args.trails.now c.loop-index.lists.items c.replace-leading.result c.index_mut.result.now c.requires c.loop-index.invariant.lists (omega arith) (c.replace-leading.ensures.value ∙ c.index_mut.ensures.value) inside)
          );
      lists = left_behind c.loop-index.lists.items _ i c.replace-leading.new.dest c.loop-index.invariant.lists;
    }

pub returns : goal.returns
returns c = all_indexes (waiting_at c.args.mappings.now c.args.container.now c.args.number c.args.reference.now) c.args.children.now.items c.loop-index.children.items c.loop-index.index c.args.reference.now.count (omega arith) c.loop-index.invariant.children
