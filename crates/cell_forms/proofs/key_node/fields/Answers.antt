use Rattle.cell_forms.specs.Views.{name_of}
use Rattle.cell_forms.proofs.key_node.fields.Goals as goal

pub returns : goal.returns
returns c = λ j. record {
  flags = c.u16_at.ensures j;
  stamp = c.u64_at.ensures j;
  parent = c.u32_at.ensures j;
  child_count = c.u32_at-2.ensures j;
  volatile_count = c.u32_at-3.ensures j;
  child_list = c.u32_at-4.ensures j;
  volatile_list = c.u32_at-5.ensures j;
  value_count = c.u32_at-6.ensures j;
  value_list = c.u32_at-7.ensures j;
  security = c.u32_at-8.ensures j;
  class = c.u32_at-9.ensures j;
  greatest_child_name = c.u32_at-10.ensures j;
  greatest_child_class = c.u32_at-11.ensures j;
  greatest_value_name = c.u32_at-12.ensures j;
  greatest_value_size = c.u32_at-13.ensures j;
  class_length = c.u16_at-2.ensures j;
  name = name_of c.args.name;
}
