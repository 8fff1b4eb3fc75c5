mod Newest
