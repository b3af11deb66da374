-- Believed. The plant that a whole file holds, the parts that the cutter makes of it, the plant that parts hold together, and a plant with its links
-- that end nowhere left out. Document 01, "Plant" and "Cutter"; document 02, request 5.
use Rattle.std.specs.Prelude.{ℕ, List, map}
use Rattle.sets.specs.Sets.{Mem, set_of}
use Rattle.files.specs.Part.{nodes, roots, stopped}
use Rattle.files.proofs.Blocks.{roots_nodes, stopped_nodes, edge_of}
use Rattle.cutter.specs.Cut.{cut}
use Rattle.demands.specs.Plant.{Plant, body, HasEdge}

-- its nodes, roots, stopped nodes and links are those of the file
abbrev pub plant_of : List ℕ → Plant
plant_of f = record {
  Node = λ x. Mem x (nodes (body f));
  Root = λ x. Mem x (roots (body f));
  Stopped = λ x. Mem x (stopped (body f));
  Link = HasEdge f;
  root_node = roots_nodes (body f);
  stopped_node = stopped_nodes (body f);
  link_node = λ x a y (w, m, l, t). (edge_of (body f) x w m).2;
}

-- of several parts together
abbrev pub plant_of_parts : List (List ℕ) → Plant
plant_of_parts parts = record {
  Node = λ x. (f : List ℕ) × Mem f parts × Mem x (nodes (body f));
  Root = λ x. (f : List ℕ) × Mem f parts × Mem x (roots (body f));
  Stopped = λ x. (f : List ℕ) × Mem f parts × Mem x (stopped (body f));
  Link = λ x a y. (f : List ℕ) × Mem f parts × HasEdge f x a y;
  root_node = λ x (f, m, r). (f, m, roots_nodes (body f) x r);
  stopped_node = λ x (f, m, s). (f, m, stopped_nodes (body f) x s);
  link_node = λ x a y (f, m, (w, k, l, t)). (f, m, (edge_of (body f) x w k).2);
}

-- a plant with its links that end nowhere left out
abbrev pub left_out : Plant → Plant
left_out p = record {
  Node = p.Node;
  Root = p.Root;
  Stopped = p.Stopped;
  Link = λ x a y. p.Link x a y × p.Node y;
  root_node = p.root_node;
  stopped_node = p.stopped_node;
  link_node = λ x a y l. p.link_node x a y l.0;
}

-- the parts for the sites that a cut list names, ascending
abbrev pub parts_of : List ℕ → List ℕ → List (List ℕ)
parts_of f cuts = map (cut f cuts) (set_of cuts)
