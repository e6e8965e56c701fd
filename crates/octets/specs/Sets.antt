-- The laws of `sets` and `part`, passed on.
pub use Rattle.lists.specs.Sets.{sets-append, sets-out, sets-before, sets-after, sets_inside, sets-set, sets_comm, sets_over, sets_hide, sets-whole, set_append_right, sets_append_right, sets_append_left, cut_at, store, part_length, part_at, part-before, part-after, part_same, put_sets, mid_part, take_least, tail-part, take_split, drop_split, written_over, Writing, writing_none, writing_more, writing_end, copied_all, copied_none, copied_eight}
