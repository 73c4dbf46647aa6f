pub mod PeerAdded
